-- Commands that are ended one after the other.
use Rattle.std.proofs.Common.{◌≡◌, ℕ, zero, suc, ◌+◌, ◌<◌, List, [], ◌∷◌, ◌++◌, length, get_or, set, take, drop, sym, ap, ◌∙◌, arith}
use Rattle.cm_sub.specs.Claims.{nobody}
use Rattle.cm_sub.specs.declared.claim.Claim.{Claim}
use Rattle.cm_replay.specs.Session.{left_by, left_devices}
use Rattle.cm_replay.specs.State.{Device}

-- one more command is ended, or goes on
pub left-next : (claims : List Claim) (devices : List Device) (i : ℕ) (x y : Device) → i < length claims → i < length devices → x ≡ get_or (left_devices (take i claims) (take i devices) ++ drop i devices) i x → y ≡ left_by (get_or claims i nobody) x →
    set (left_devices (take i claims) (take i devices) ++ drop i devices) i y ≡ left_devices (take (i + 1) claims) (take (i + 1) devices) ++ drop (i + 1) devices
left-next [] devices i x y c d item made = absurd (omega arith)
left-next (claim ∷ claims) [] i x y c d item made = absurd (omega arith)
left-next (claim ∷ claims) (device ∷ devices) zero x y c d item made = ap (λ w. w ∷ devices) (made ∙ ap (left_by claim) item)
left-next (claim ∷ claims) (device ∷ devices) (suc i) x y c d item made =
    let longer : suc i + 1 ≡ suc (i + 1) = omega arith in
    ap (λ w. left_by claim device ∷ w) (left-next claims devices i x y (omega arith) (omega arith) item made)
    ∙ ap (λ n. left_devices (take n (claim ∷ claims)) (take n (device ∷ devices)) ++ drop n (device ∷ devices)) (sym longer)
