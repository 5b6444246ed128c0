-- What is to come, by the time of the next conversion.
use Rattle.std.proofs.Common.{◌≡◌, ℕ, ◌<◌, ◌≤◌, List, [], ◌∷◌, drop, Option, Some, None, refl, sym, ap, ◌∙◌, arith, subst}
use Rattle.std.specs.Prelude.{slice_get, option_map}
use Rattle.cm_expand.specs.Taking.{NeverFalls, come}
use Rattle.cm_expand.specs.declared.conv.Conv.{Conv}
use Rattle.cm_expand.proofs.Come.{come-later_first, come-none}
use Rattle.cm_running.specs.ToCome.{GivesBy}

-- where no next time is, nothing is left
pub nothing_left : (cs : List Conv) → option_map (λ (c : Conv). c.time) (slice_get cs 0) ≡ None → cs ≡ []
nothing_left [] none = refl
nothing_left (c ∷ cs) none = absurd (cc)

-- where the next time is later, none has come
pub come-late : (time t : ℕ) (cs : List Conv) → NeverFalls cs → option_map (λ (c : Conv). c.time) (slice_get cs 0) ≡ Some t → time < t → come time cs ≡ 0
come-late time t [] order next late = refl
come-late time t (c ∷ cs) order next late =
    let same : c.time ≡ t = cc in
    come-later_first time c cs (omega arith) ∙ come-none time cs c.time order.1 (omega arith)

-- the first of those to come, where the next time has come
pub gives-first : (time t : ℕ) (cs next : List Conv) (result : Option Conv) → option_map (λ (c : Conv). c.time) (slice_get cs 0) ≡ Some t → t ≤ time → result ≡ slice_get cs 0 → next ≡ drop 1 cs → GivesBy time result cs next
gives-first time t [] next result is early first after = absurd (cc)
gives-first time t (c ∷ cs) next result is early first after =
    let same : c.time ≡ t = cc in
    subst (λ (o : Option Conv). GivesBy time o (c ∷ cs) next) (sym first) (ap (λ xs. c ∷ xs) (sym after), omega arith)
