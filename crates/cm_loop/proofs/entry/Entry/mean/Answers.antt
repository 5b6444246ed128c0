use Rattle.std.proofs.Common.{ℕ, ◌/◌, ◌<◌, length, ap, subst, sym, ◌≡◌, arith}
use Rattle.cm_loop.specs.Entry.{EntryText}
use Rattle.cm_loop.proofs.Entries.{mean_within}
use Rattle.cm_loop.proofs.entry.Entry.mean.Goals as goal

pub overflow_cast-result : goal.overflow_cast-result
overflow_cast-result c =
    let some : 0 < length c.self.inside.words.items = subst (λ (e : EntryText). 0 < length e.words) (sym c.self.view_is) c.requires in
    let within = mean_within _ _ _ _ c.self.invariant.samples some in let max = c.self.invariant.samples.item_is.1 in
    let same : c.self.inside.sum / c.len.result ≡ c.self.inside.sum / length c.self.inside.words.items = ap (λ (x : ℕ). c.self.inside.sum / x) c.len.ensures.len in omega arith

pub returns-clause-within : goal.returns-clause-within
returns-clause-within c =
    let some : 0 < length c.self.inside.words.items = subst (λ (e : EntryText). 0 < length e.words) (sym c.self.view_is) c.requires in
    let within = mean_within _ _ _ _ c.self.invariant.samples some in
    let max = ap (λ (e : EntryText). e.item.in_max) c.self.view_is in
    let same : c.self.inside.sum / c.len.result ≡ c.self.inside.sum / length c.self.inside.words.items = ap (λ (x : ℕ). c.self.inside.sum / x) c.len.ensures.len in omega arith
