use Rattle.std.proofs.Common.{ℕ, ◌+◌, ◌-◌, ap, sym, ◌≡◌, ◌∙◌, unwrap_or, arith}
use Rattle.circular_buffer.specs.Buffer.{Buffer}
use Rattle.cm_loop.specs.Entry.{EntryText}
use Rattle.cm_loop.proofs.Entries.{total_few, kept}
use Rattle.cm_loop.proofs.entry.Entry.push.Goals as goal

pub overflow_add-self : goal.overflow_add-self
overflow_add-self c = let few = total_few _ _ _ _ c.self.invariant.samples in let word = c.ranges.word.fits in let same = c.from.ensures in omega arith

pub invariant_of-self : goal.invariant_of-self
invariant_of-self c =
    let max = ap (λ (e : EntryText). e.item.in_max) c.self.view_is in let fits = c.requires in let word = c.from.ensures in
    let total : c.self.inside.sum + c.from.result - c.from-2.result ≡ c.self.inside.sum + c.args.word - unwrap_or c.push_back-oldest.result 0 =
    ap (λ (x : ℕ). c.self.inside.sum + x - c.from-2.result) c.from.ensures ∙ ap (λ (x : ℕ). c.self.inside.sum + c.args.word - x) (c.from-2.ensures ∙ c.unwrap_or.ensures) in
    record {
      samples = kept _ _ _ _ c.args.word c.self.invariant.samples (omega arith) _ c.push_back-oldest.ensures.items _ c.push_back-oldest.ensures.value _ total;
      by_in_max_is = c.self.invariant.by_in_max_is;
      by_window_is = c.self.invariant.by_window_is ∙ sym (ap (λ (b : Buffer ℕ). b.capacity) c.push_back-oldest.ensures.items);
    }
