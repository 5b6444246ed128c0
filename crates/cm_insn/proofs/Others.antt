-- A channel that an instruction doesn't name is as before.
use Rattle.std.proofs.Common.{◌≡◌, ℕ, zero, suc, ◌+◌, ◌<◌, ◌≤◌, ◌∙◌, Bool, true, false, ◌==◌, ◌⊎◌, inl, inr, List, [], ◌∷◌, get_or, length, ap, refl, sym, arith, slice_index, if◌then◌else◌}
use Rattle.std.proofs.lemmas.Bool.{cases_lt}
use Rattle.std.proofs.lemmas.Bool.Decides.{nat_tests}
use Rattle.std.proofs.lemmas.List.{get_or-set_other}
use Rattle.cm_cmd.specs.Entry.{chan}
use Rattle.cm_sample.proofs.Mapped.{get_or-map_from, length-map_from}
use Rattle.cm_sample.specs.Rule.{map_from}
use Rattle.cm_sub.specs.State.{StateText}
use Rattle.cm_insn.specs.Bits.{bit, bit_put, takes_bit, with_bits}
use Rattle.cm_insn.specs.Insn.{can_config, can_put, can_read, can_write, done_if, insn, last_of, put, state_after}
use Rattle.cm_insn.specs.Site.{SiteText}
use Rattle.cm_insn.specs.Stays.{IsSame, names}
use Rattle.cm_insn.specs.declared.insn.InsnCode.{InsnCode}
use Rattle.cm_insn.specs.declared.insn.InsnCode.TheVariants as codes

same : (state : StateText) (c : ℕ) → IsSame state state c
same state c = record { value = refl; out = refl }

-- whether it is done or not
either : (test : Bool) (state new : StateText) (words : List ℕ) (c : ℕ) → IsSame state new c → IsSame state (state_after (done_if test new words) state) c
either true state new words c is = is
either false state new words c is = same state c

apart : (c d : ℕ) → (c == d) ≡ false → c ≡ d → ⊥
apart c d test is = grind (arith, nat_tests)

unchosen : (test : Bool) (value other : ℕ) → test ≡ false → (if test then value else other) ≡ other
unchosen true value other is = cc
unchosen false value other is = refl

past : (xs : List ℕ) (c : ℕ) → length xs ≤ c → get_or xs c 0 ≡ 0
past [] c beyond = refl
past (x ∷ xs) zero beyond = absurd (omega arith)
past (x ∷ xs) (suc c) beyond = past xs c (omega arith)

bit_stays : (s : SiteText) (state : StateText) (mask bits c : ℕ) → takes_bit s.sub state.outs mask c ≡ false
    → (c < length state.values) ⊎ (length state.values ≤ c) → get_or (with_bits s.sub state mask bits).values c 0 ≡ get_or state.values c 0
bit_stays s state mask bits c test (inl below) =
    let f = bit_put s.sub state.outs mask bits in
    let here : 0 + c ≡ c = omega arith in
    get_or-map_from f 0 state.values c 0 0 below ∙ ap (λ n. f n (get_or state.values c 0)) here ∙ unchosen (takes_bit s.sub state.outs mask c) (bit bits c) (get_or state.values c 0) test
bit_stays s state mask bits c test (inr beyond) =
    let f = bit_put s.sub state.outs mask bits in
    let long = length-map_from f 0 state.values in
    past (map_from f 0 state.values) c (omega (arith, long)) ∙ sym (past state.values c beyond)

pub others_stay : (s : SiteText) (state : StateText) (code : InsnCode) (entry : ℕ) (given : List ℕ) (c : ℕ)
    → names s state code entry given c ≡ false → IsSame state (state_after (insn s state code entry given) state) c
others_stay s state codes.Read entry given c test = either (can_read s.sub entry given) state state _ c (same state c)
others_stay s state codes.Write entry given c test =
    either (can_write s.sub state.outs entry given) state _ _ c
    (record { value = get_or-set_other state.values (chan entry) c (last_of given) 0 (apart c (chan entry) test); out = refl })
others_stay s state codes.Bits entry given c test =
    either (can_put s.sub given) state (put s.sub state given) _ c
    (record { value = bit_stays s state (slice_index given 0) (slice_index given 1) c test (cases_lt c (length state.values)); out = refl })
others_stay s state codes.Config entry [] c test = same state c
others_stay s state codes.Config entry (word ∷ []) c test =
    either (can_config s.sub entry word) state _ _ c
    (record { value = refl; out = get_or-set_other state.outs (chan entry) c _ false (apart c (chan entry) test) })
others_stay s state codes.Config entry (word ∷ next ∷ more) c test = same state c
others_stay s state codes.Gtod entry given c test = either _ state state _ c (same state c)
