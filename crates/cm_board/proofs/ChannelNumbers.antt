-- The numbers of each channel of a sound subdevice.
use Rattle.std.proofs.Common.{◌≡◌, ℕ, zero, suc, ◌+◌, ◌-◌, ◌^◌, ◌<◌, ◌≤◌, Bool, true, false, cond, not, ◌&&◌, ◌||◌, List, [], ◌∷◌, length, Option, Some, None, refl, sym, subst, nat_le, ◌==◌, arith}
use Rattle.std.specs.Prelude.{option_to_list}
use Rattle.std.specs.List.{All, list_all, list_any, range_with_len}
use Rattle.std.specs.Option.{unwrap_or}
use Rattle.std.proofs.lemmas.Bool.Decides.{nat_tests}
use Rattle.std.proofs.lemmas.Bool.{eqb-true}
use Rattle.std.proofs.Math.Nat.{pow-le-pow_right}
use Rattle.cm_base.proofs.Bools.{both}
use Rattle.cm_board.specs.Board.{ChanText, IsChannel, IsFrom1To, IsRange, IsSoundChan, IsSoundSub, SubText, fits_bits, fits_kind, fits_commands, fits_lines, has_channels, has_text, is_bare, is_bits_ok, is_channel_ok, is_digital, is_maxdata, is_munge, is_unused, maxdata_by, maxdata_of, munge_by, munge_of, ranges_by, ranges_of, set_for, some_or}
use Rattle.cm_board.specs.declared.board.Kind.{Kind}
use Rattle.cm_board.specs.declared.board.Kind.TheVariants as kinds
use Rattle.cm_board.specs.declared.munge.Munge.{Munge}
use Rattle.cm_board.specs.declared.board.Range.{Range}

-- a test that one of so many numbers passes
pub any_at : (p : ℕ → Bool) (n a : ℕ) → list_any p (range_with_len a n) ≡ true → (k : ℕ) × (a ≤ k) × (k < a + n) × (p k ≡ true)
any_at p zero a h = cc
any_at p (suc n) a h = found (p a) refl h (any_at p n (a + 1))
  where
    found : (b : Bool) → p a ≡ b → (b || list_any p (range_with_len (a + 1) n)) ≡ true → (list_any p (range_with_len (a + 1) n) ≡ true → (k : ℕ) × (a + 1 ≤ k) × (k < a + 1 + n) × (p k ≡ true)) → (k : ℕ) × (a ≤ k) × (k < a + suc n) × (p k ≡ true)
    found true is h later = (a, omega arith, omega arith, is)
    found false is h later = let l = later h in (l.0, omega (arith, l.1), omega (arith, l.2), l.3)

-- a test that all of so many numbers pass
pub all_below : (p : ℕ → Bool) (n a k : ℕ) → list_all p (range_with_len a n) ≡ true → a ≤ k → k < a + n → p k ≡ true
all_below p zero a k h low high = absurd (omega arith)
all_below p (suc n) a k h low high =
    let b = both (p a) (list_all p (range_with_len (a + 1) n)) h in
    at (nat_le k a) refl b.0 (all_below p n (a + 1) k b.1)
  where
    at : (t : Bool) → nat_le k a ≡ t → p a ≡ true → (a + 1 ≤ k → k < a + 1 + n → p k ≡ true) → p k ≡ true
    at true e here later = subst (λ (m : ℕ). p m ≡ true) (let same : a ≡ k = grind (arith, nat_tests, e) in same) here
    at false e here later = later (grind (arith, nat_tests, e)) (omega arith)

-- the greatest code of 1 to 24 bits
pub greatest : (k : ℕ) → 1 ≤ k → k ≤ 24 → IsFrom1To (2 ^ 24 - 1) (2 ^ k - 1)
greatest k h j =
    let low : 2 ^ 1 ≤ 2 ^ k = pow-le-pow_right {n = 2} (omega arith) {i = 1} {j = k} h in
    let high : 2 ^ k ≤ 2 ^ 24 = pow-le-pow_right {n = 2} (omega arith) {i = k} {j = 24} j in
    record { low = omega arith; high = omega arith }

pub greatest_code : (maxdata : ℕ) → is_maxdata maxdata ≡ true → IsFrom1To (2 ^ 24 - 1) maxdata
greatest_code maxdata h =
    let a = any_at (λ bits. maxdata == 2 ^ bits - 1) 24 1 h in
    subst (IsFrom1To (2 ^ 24 - 1)) (sym (eqb-true maxdata (2 ^ a.0 - 1) a.3)) (greatest a.0 a.1 (omega (arith, a.2)))

-- what stands of a channel is one of those that stand
AreSound : ℕ → Option ChanText → Type 0
AreSound channels None = Unit {0}
AreSound channels (Some c) = IsSoundChan channels c

set_sound : (channels : ℕ) (cs : List ChanText) (chan : ℕ) → All (IsSoundChan channels) cs → AreSound channels (set_for cs chan)
unfolding AreSound
set_sound channels [] chan h = tt
set_sound channels (c ∷ more) chan h = at (c.chan == chan) (h 0 c (omega arith)) (set_sound channels more chan (λ k d below. h (suc k) d (omega arith)))
  where
    at : (b : Bool) → IsSoundChan channels c → AreSound channels (set_for more chan) → AreSound channels (cond b (Some c) (set_for more chan))
    at true here later = here
    at false here later = later

-- what holds of a number that may be missing and of its default
default_keeps : {X : Type 0} (q : X → Bool) (o : Option X) (whole : X) → list_all q (option_to_list o) ≡ true → q whole ≡ true → q (unwrap_or o whole) ≡ true
default_keeps q None whole h k = k
default_keeps q (Some x) whole h k = (both (q x) true h).0

maxdata_kept : (channels : ℕ) (set : Option ChanText) (whole : ℕ) → AreSound channels set → is_maxdata whole ≡ true → is_maxdata (maxdata_by set whole) ≡ true
unfolding AreSound
maxdata_kept channels None whole h k = k
maxdata_kept channels (Some c) whole h k = default_keeps is_maxdata c.maxdata whole h.maxdata k

munge_kept : (channels : ℕ) (set : Option ChanText) (whole : Munge) → AreSound channels set → is_munge whole ≡ true → is_munge (munge_by set whole) ≡ true
unfolding AreSound
munge_kept channels None whole h k = k
munge_kept channels (Some c) whole h k = default_keeps is_munge c.munge whole h.munge k

-- ranges that can be those of a channel
record AreRanges (ranges : List Range) : Type 0 where
  pub some : 1 ≤ length ranges
  pub few : length ranges ≤ 32
  pub proper : All IsRange ranges

some_kept : (own whole : List Range) → length own ≤ 32 → All IsRange own → AreRanges whole → AreRanges (some_or own whole)
some_kept [] whole few proper h = h
some_kept (r ∷ own) whole few proper h = record { some = omega arith; few = few; proper = proper }

ranges_kept : (channels : ℕ) (set : Option ChanText) (whole : List Range) → AreSound channels set → AreRanges whole → AreRanges (ranges_by set whole)
unfolding AreSound
ranges_kept channels None whole h k = k
ranges_kept channels (Some c) whole h k = some_kept c.ranges whole h.few_ranges h.ranges k

-- a subdevice with channels is in use
in_use : (version : ℕ) (kind : Kind) (channels chan : ℕ) → has_channels version kind channels ≡ true → chan < channels → is_unused kind ≡ false
in_use version kinds.Unused channels chan h below = absurd (grind (arith, nat_tests))
in_use version kinds.Ai channels chan h below = refl
in_use version kinds.Ao channels chan h below = refl
in_use version kinds.Di channels chan h below = refl
in_use version kinds.Do channels chan h below = refl
in_use version kinds.Dio channels chan h below = refl

or_right_of : (a b : Bool) → a ≡ false → (a || b) ≡ true → b ≡ true
or_right_of true b e h = cc
or_right_of false b e h = h

-- what a sound subdevice says of its channels
record HasNumbers (s : SubText) : Type 0 where
  pub channels : has_channels s.version s.kind s.channels ≡ true
  pub some_ranges : (is_unused s.kind || nat_le 1 (length s.ranges)) ≡ true
  pub maxdata : is_maxdata s.maxdata ≡ true
  pub munge : is_munge s.munge ≡ true

numbers_kept : (s : SubText) → IsSoundSub s → HasNumbers s
unfolding has_text
numbers_kept s h =
    let a = both (fits_kind s && fits_commands s) (fits_lines s) h.text in
    let b = both (fits_kind s) (fits_commands s) a.0 in
    let k1 = both _ (not (is_unused s.kind) || is_bare s) b.0 in
    let k2 = both _ _ k1.0 in
    let k3 = both (has_channels s.version s.kind s.channels) (is_unused s.kind || nat_le 1 (length s.ranges)) k2.0 in
    let l1 = both _ _ a.1 in
    let l2 = both _ _ l1.0 in
    let l3 = both _ _ l2.0 in
    let l4 = both (is_maxdata s.maxdata) (is_munge s.munge) l3.0 in
    record { channels = k3.0; some_ranges = k3.1; maxdata = l4.0; munge = l4.1 }

-- each channel has a greatest code, a munge that goes with it, and ranges
pub channel : (s : SubText) (chan : ℕ) → IsSoundSub s → chan < s.channels → IsChannel (maxdata_of s chan) (munge_of s chan) (ranges_of s chan)
unfolding is_bits_ok maxdata_of munge_of ranges_of
channel s chan h below =
    let n = numbers_kept s h in
    let set = set_sound s.channels s.chans chan h.chans in
    let unused = in_use s.version s.kind s.channels chan n.channels below in
    let some : 1 ≤ length s.ranges = grind (arith, nat_tests, or_right_of (is_unused s.kind) (nat_le 1 (length s.ranges)) unused n.some_ranges) in
    let ranges = ranges_kept s.channels (set_for s.chans chan) s.ranges set (record { some = some; few = h.few_ranges; proper = h.ranges }) in
    let bits = all_below (is_channel_ok s) s.channels 0 chan h.bits (omega arith) (omega arith) in
    record {
      largest = greatest_code (maxdata_by (set_for s.chans chan) s.maxdata) (maxdata_kept s.channels (set_for s.chans chan) s.maxdata set n.maxdata);
      munge_fits = munge_kept s.channels (set_for s.chans chan) s.munge set n.munge;
      bits_fit = (both (not (is_digital s.kind) || maxdata_of s chan == 1) (fits_bits (munge_of s chan) (maxdata_of s chan)) bits).1;
      some = ranges.some;
      few = ranges.few;
      proper = ranges.proper;
    }
