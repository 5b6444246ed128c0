-- What the rule of the turns says of each place.
use Rattle.std.proofs.Common.{◌≡◌, ◌≢◌, ◌↔◌, ℕ, get_or, sym, refl, ◌∙◌, Option, Some, None, arith}
use mathlib.Core.Option.{some}
use lib.ListN.{get_elem?}
use Rattle.cm_sub.specs.State.{StateText}
use Rattle.cm_sub.specs.Owning.{channel_count}
use Rattle.cm_sub.specs.Turns.{IsPlace}
use Rattle.cm_sub.specs.Laws.{HoldsPlace, OneHolder, OutWhereHeld, HomeHasState}

pub one_holder : OneHolder
one_holder channels s r place one other h g =
    let e : Some one ≡ Some other = sym (r.holds one h.0 h.1 place h.2) ∙ r.holds other g.0 g.1 place g.2 in cc

pub out_where_held : OutWhereHeld
out_where_held channels s r place lt = go (r.holder place) refl (r.place place lt)
  where
    go : (o : Option ℕ) → r.holder place ≡ o → IsPlace channels s place o → (get_or s.words place 0 ≢ 0) ↔ ((seat : ℕ) × HoldsPlace s place seat)
    go None is h = ((λ out. absurd (out h.0)), λ p. absurd (let e : None ≡ Some p.0 = sym is ∙ r.holds p.0 p.1.0 p.1.1 place p.1.2 in cc))
    go (Some j) is h = ((λ out. (j, r.held place j is)), λ p zero_is. absurd (let e : get_or s.words place 0 ≡ 1 = h.0 in omega arith))

pub home_has_state : HomeHasState
home_has_state channels s r place lt zero_is = go (r.holder place) (r.place place lt)
  where
    go : (o : Option ℕ) → IsPlace channels s place o → (state : StateText) × (get_elem? s.homes place ≡ some (some (Some state))) × (channel_count state ≡ get_or channels place 0)
    go None h = h.1
    go (Some j) h = absurd (let e : get_or s.words place 0 ≡ 1 = h.0 in omega arith)
