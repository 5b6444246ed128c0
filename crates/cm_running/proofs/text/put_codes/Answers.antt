use Rattle.std.proofs.Common.{◌++◌, List, ℕ, codes, take, sym, ap, ◌∙◌}
use Rattle.std.specs.Fmt.{decimal}
use Rattle.cm_running.specs.Texts.{words_text}
use Rattle.cm_running.proofs.Wordings.{codes_text-parts}
use Rattle.cm_running.proofs.text.put_codes.Goals as goal

pub returns : goal.returns
returns c =
    let old = c.args.text.now.items in
    let first : List ℕ = c.granted.result.0.now in
    let rest : List ℕ = c.granted.result.1.now in
    let held = c.args.ring.now.held in
    c.in_ok-extend_from_slice-2.ensures.items
    ∙ ap (λ (t : List ℕ). t ++ codes "\n") (c.in_ok-put_spaced-2.ensures
    ∙ ap (λ (t : List ℕ). t ++ words_text rest) (c.in_ok-put_spaced.ensures
    ∙ ap (λ (t : List ℕ). t ++ words_text first) (c.in_ok-put_u64.ensures.ok
    ∙ ap (λ (t : List ℕ). t ++ decimal c.from.result) c.in_ok-extend_from_slice.ensures.items)))
    ∙ ap (λ (n : ℕ). old ++ codes "ok " ++ decimal n ++ words_text first ++ words_text rest ++ codes "\n") c.from.ensures
    ∙ codes_text-parts old first rest held c.args.count c.requires.held (c.granted.ensures ∙ ap (λ (n : ℕ). take n held) (sym c.requires.granted))
