use Rattle.std.proofs.Common.{◌≡◌, ◌+◌, ◌%◌, ◌<◌, false, length, get_or, set, sym, ap, ◌∙◌, arith, add-one, length-set, mod-lt}
use Rattle.cm_sample.specs.Rule.{munged_word, rule_text}
use Rattle.cm_sample.proofs.Items.{munged_by_item}
use Rattle.cm_sample.proofs.Mapped.{mapped_to, mapped_to-next, mapped_to-word}
use Rattle.cm_sample.proofs.rule.munge_alike.Goals as goal

pub munge_by-requires : goal.munge_by-requires
munge_by-requires c = c.requires.rule.shift 0 c.item_at-item.result c.item_at-item.ensures

pub loop-i-preserved : goal.loop-i-preserved
loop-i-preserved c =
    let f = munged_word (rule_text c.args.items.now c.args.out false) in
    let place = c.args.place in
    let i = c.loop-i.i in
    let words = c.args.words.now in
    let so_far = c.loop-i.invariant.so_far in
    let many = length c.args.items.now in
    let alone = c.requires.alone in
    let below : (place + i) % many < many = mod-lt (place + i) (omega arith) in
    let first : 0 ≡ (place + i) % many = omega arith in
    let word = c.munge_by.ensures ∙ munged_by_item c.args.items.now c.args.out 0 (place + i) (get_or c.loop-i.words i 0) c.item_at-item.result c.item_at-item.ensures first
    ∙ ap (f (place + i)) (ap (λ ws. get_or ws i 0) so_far ∙ mapped_to-word f place i 0 words) in
    record {
      so_far = ap (λ ws. set ws i c.munge_by.result) so_far ∙ mapped_to-next f place i c.munge_by.result words (omega arith) word ∙ ap (λ n. mapped_to f place n words) (sym (add-one i));
      size = length-set c.loop-i.words i c.munge_by.result ∙ c.loop-i.invariant.size;
    }
