-- What holds of each munge: a line says a good one, and munging undoes unmunging.
use Rattle.std.proofs.Common.{◌≡◌, ℕ, zero, suc, ◌*◌, ◌-◌, ◌/◌, ◌^◌, ◌<◌, ◌≤◌, true, min, max, nat_le, sym, ap, ◌∙◌, refl, arith, mod-eq_of_lt, mul-div_cancel, mul-le-mul_left}
use Rattle.std.specs.Prelude.{bit_xor}
use Rattle.std.specs.Int.Bits.{xor_assoc, xor_self, xor_zero_r}
use Rattle.std.proofs.Math.Nat.{pow-le-pow_right}
use Rattle.std.proofs.lemmas.Bool.{le-leb, leb-true}
use Rattle.std.proofs.lemmas.Nat.{pow_pos, xor_comm}
use Rattle.cm_base.proofs.Bools.{and_true, both}
use Rattle.cm_board.specs.Munge.{IsCode, MayShift, fits_bits, is_munge, munge_by_form, munged, swapped, unmunged}
use Rattle.cm_board.specs.declared.munge.Munge.{Munge}
use Rattle.cm_board.specs.declared.munge.Munge.TheVariants.{Plain, Offset, Swap16, Left}

-- each form says a munge
pub said_fits : (form bits : ℕ) → is_munge (munge_by_form form bits) ≡ true
said_fits zero bits = refl
said_fits (suc zero) bits = refl
said_fits (suc (suc zero)) bits = refl
said_fits (suc (suc (suc form))) bits =
    and_true _ _ (le-leb 1 (max (min bits 8) 1) (omega arith)) (le-leb (max (min bits 8) 1) 8 (omega arith))

-- a munge that the board keeps may be applied
pub may_shift : (kind : Munge) → is_munge kind ≡ true → MayShift kind
may_shift Plain e = tt
may_shift Offset e = tt
may_shift Swap16 e = tt
may_shift (Left bits) e = leb-true bits 8 (both (nat_le 1 bits) (nat_le bits 8) e).1

-- munging gives the codes of a munge that the board keeps back
pub code_back : (kind : Munge) (maxdata code : ℕ) → is_munge kind ≡ true → fits_bits kind maxdata ≡ true → maxdata ≤ 2 ^ 24 - 1 → code ≤ maxdata → IsCode kind maxdata code
code_back Plain maxdata code shift few most within = (within, omega arith)
code_back Offset maxdata code shift few most within = (within, omega arith)
code_back Swap16 maxdata code shift few most within = (within, let low = leb-true maxdata 65535 few in omega arith)
code_back (Left bits) maxdata code shift few most within = (within, omega arith, may_shift (Left bits) shift)

-- a mask that is put on twice is off again
xor_twice : (a m : ℕ) → bit_xor (bit_xor a m) m ≡ a
xor_twice a m = xor_assoc a m m ∙ ap (bit_xor a) (xor_self m) ∙ xor_zero_r a

both_masks : (a m n : ℕ) → bit_xor (bit_xor (bit_xor (bit_xor a m) n) m) n ≡ a
both_masks a m n =
    ap (λ x. bit_xor x n) (xor_assoc (bit_xor a m) n m ∙ ap (bit_xor (bit_xor a m)) (xor_comm n m) ∙ sym (xor_assoc (bit_xor a m) m n) ∙ ap (λ x. bit_xor x n) (xor_twice a m))
    ∙ xor_twice a n

two_bytes : (code : ℕ) → code < 2 ^ 16 → swapped (swapped code) ≡ code
two_bytes code h = omega arith

-- a number of 24 bits that is shifted by at most 8 fits 32
shifted_fits : (s code : ℕ) → code < 2 ^ 24 → s ≤ 8 → code * 2 ^ s < 2 ^ 32
shifted_fits s code below few =
    let small : 2 ^ s ≤ 2 ^ 8 = pow-le-pow_right {n = 2} (omega arith) {i = s} {j = 8} few in
    omega (arith, mul-le-mul_left code small)

pub munged-unmunged : (kind : Munge) (maxdata code : ℕ) → IsCode kind maxdata code → munged kind maxdata (unmunged kind maxdata code) ≡ code
munged-unmunged Plain maxdata code h = refl
munged-unmunged Offset maxdata code h = both_masks code maxdata (maxdata / 2)
munged-unmunged Swap16 maxdata code h = two_bytes code (omega arith)
munged-unmunged (Left s) maxdata code h = ap (λ x. x / 2 ^ s) (mod-eq_of_lt (shifted_fits s code (omega arith) h.2)) ∙ mul-div_cancel code (pow_pos s)
