-- Signals with one line more keep what signals keep.
use Rattle.std.proofs.Common.{◌≡◌, ℕ, zero, suc, ◌+◌, ◌-◌, ◌<◌, ◌≤◌, ◌^◌, List, [], ◌∷◌, ◌++◌, length, get_or, set, Bool, true, false, cond, ◌&&◌, refl, ap, sym, subst, ◌∙◌, inl, inr, arith, length-append, Result, Ok, Err}
use Rattle.std.specs.Prelude.{OnOk, ◌==◌, not, nat_le, slice_index_or, slice_set, replicate}
use Rattle.std.specs.List.{list_all, list_any}
use Rattle.std.specs.List.Sorted.{IsStrictlyIncreasing}
use Rattle.std.specs.Global.{Vec}
use Rattle.std.specs.Vec.{with_items}
use Rattle.std.proofs.lemmas.Bool.{cases_Bool, cases_eq, cases_lt, eqb-true, eq-eqb, leb-true, le-leb, and_from, or_from}
use Rattle.std.proofs.lemmas.List.Folds.{list_all_at, list_any-append}
use Rattle.std.proofs.Math.ListN.{get_or-append}
use Rattle.std.proofs.Math.Seq.{get_or-append_right}
use Rattle.std.proofs.lemmas.List.Elements.{All-nil, All-push}
use Rattle.std.proofs.lemmas.List.{get_or-set_same, get_or-set_other, length-set, with_items_is}
use Rattle.cm_base.proofs.Bools.{both, neither, not_true}
use Rattle.cm_board.specs.Board.{SubText}
use Rattle.cm_signal.proofs.Waves.{is_wave}
use Rattle.cm_signal.specs.Fitting.{FitBoard, Fits, HasChannel, HasSub}
use Rattle.cm_signal.specs.Signals.{SignalsText, IsSoundSignals, IsWave, AreEdges, edge_count, have_own, is_at, recorded_count, recorded_in, times_at}
use Rattle.cm_signal.specs.Adding.{has_record_room, has_room, rises_from, silent, with_said, with_times}
use Rattle.cm_signal.specs.Wave.{HasPeriod, is_fine}
use Rattle.cm_signal.specs.declared.signal_line.SignalLine.{SignalLine}
use Rattle.cm_signal.specs.declared.signal_line.SignalLine.TheVariants as said
use Rattle.cm_signal.specs.declared.signals.IntAt.{IntAt}
use Rattle.cm_signal.specs.declared.signals.Slope.{Slope}
use Rattle.cm_signal.specs.declared.signals.Slope.TheVariants as slopes
use Rattle.cm_signal.specs.declared.wave.Wave.{Wave}
use Rattle.cm_signal.specs.declared.wave.WaveAt.{WaveAt}

-- what holds of all items by a test
pub all_at : (test : ℕ → Bool) (xs : List ℕ) (i : ℕ) → list_all test xs ≡ true → i < length xs → test (get_or xs i 0) ≡ true
all_at test xs i all inside = elim (cases_Bool (test (get_or xs i 0))) [
  | inl passes ↦ passes
  | inr fails ↦ let none = list_all_at test xs i 0 inside fails in cc
]

-- two waves are of one channel, seen from either
same_channel : (w x : WaveAt) → is_at w.sub w.chan x ≡ false → is_at x.sub x.chan w ≡ false
same_channel w x other = elim (cases_Bool (is_at x.sub x.chan w)) [
  | inl same ↦
      let parts = both (w.sub == x.sub) (w.chan == x.chan) same in
      let sub = eq-eqb x.sub w.sub (sym (eqb-true w.sub x.sub parts.0)) in
      let chan = eq-eqb x.chan w.chan (sym (eqb-true w.chan x.chan parts.1)) in
      let seen = and_from (x.sub == w.sub) (x.chan == w.chan) sub chan in
      cc
  | inr apart ↦ apart
]

-- one wave more
pub own_more : (ws : List WaveAt) (w : WaveAt) → have_own ws ≡ true → list_any (is_at w.sub w.chan) ws ≡ false → have_own (ws ++ w ∷ []) ≡ true
unfolding have_own
own_more [] w own other = refl
own_more (x ∷ xs) w own other =
    let apart = neither (is_at w.sub w.chan x) (list_any (is_at w.sub w.chan) xs) other in
    let parts = both (not (list_any (is_at x.sub x.chan) xs)) (have_own xs) own in
    let none = or_from _ _ (not_true (list_any (is_at x.sub x.chan) xs) parts.0) (or_from (is_at x.sub x.chan w) false (same_channel w x apart.0) refl) in
    and_from _ _ (ap not (list_any-append (is_at x.sub x.chan) xs (w ∷ []) ∙ none)) (own_more xs w parts.1 apart.1)

-- the least time after others
after : ℕ → List ℕ → ℕ
after least [] = least
after least (x ∷ xs) = after (x + 1) xs

rises_append : (least : ℕ) (xs ys : List ℕ) → rises_from least xs ≡ true → rises_from least (xs ++ ys) ≡ rises_from (after least xs) ys
unfolding after
rises_append least [] ys e = refl
rises_append least (x ∷ xs) ys e =
    let parts = both (nat_le least x) (rises_from (x + 1) xs) e in
    ap (λ t. t && rises_from (x + 1) (xs ++ ys)) parts.0 ∙ rises_append (x + 1) xs ys parts.1

after_last : (least : ℕ) (xs : List ℕ) → 0 < length xs → after least xs ≡ get_or xs (length xs - 1) 0 + 1
unfolding after
after_last least [] some = absurd (omega arith)
after_last least (x ∷ []) some = refl
after_last least (x ∷ y ∷ more) some =
    let last : suc (length (y ∷ more) - 1) ≡ length (x ∷ y ∷ more) - 1 = omega arith in
    after_last (x + 1) (y ∷ more) (omega arith) ∙ ap (λ n. get_or (x ∷ y ∷ more) n 0 + 1) last

-- rising times rise from each number that isn't above the first
rising : (least : ℕ) (xs : List ℕ) → IsStrictlyIncreasing xs → (0 < length xs → least ≤ get_or xs 0 0) → rises_from least xs ≡ true
rising least [] rise low = refl
rising least (x ∷ xs) rise low =
    and_from (nat_le least x) _ (le-leb least x (low (omega arith))) (rising (x + 1) xs (λ k h.
    let step = rise (suc k) (omega arith) in
    let next : suc k + 1 ≡ suc (k + 1) = omega arith in
    let there = ap (λ n. get_or (x ∷ xs) n 0) next in
    omega arith) (λ h. let first = rise 0 (omega arith) in omega arith))

pub rises_after_is : (xs ys : List ℕ) → IsStrictlyIncreasing xs → 0 < length xs → rises_from 0 (xs ++ ys) ≡ rises_from (get_or xs (length xs - 1) 0 + 1) ys
rises_after_is xs ys rise some = rises_append 0 xs ys (rising 0 xs rise (λ h. omega arith)) ∙ ap (λ n. rises_from n ys) (after_last 0 xs some)

-- times that rise from a number rise
pub increasing : (least : ℕ) (xs : List ℕ) → rises_from least xs ≡ true → IsStrictlyIncreasing xs
increasing least [] e k h = absurd (omega arith)
increasing least (x ∷ []) e k h = absurd (omega arith)
increasing least (x ∷ y ∷ more) e zero h =
    let parts = both (nat_le least x) (rises_from (x + 1) (y ∷ more)) e in
    let next = both (nat_le (x + 1) y) (rises_from (y + 1) more) parts.1 in
    let above = leb-true (x + 1) y next.0 in
    omega arith
increasing least (x ∷ y ∷ more) e (suc k) h =
    let parts = both (nat_le least x) (rises_from (x + 1) (y ∷ more)) e in
    let step = increasing (x + 1) (y ∷ more) parts.1 k (omega arith) in
    let later : suc k + 1 ≡ suc (k + 1) = omega arith in
    let there = ap (λ n. get_or (x ∷ y ∷ more) n 0) later in
    omega arith

-- the edges of one line are among all
one_line : (edges : List (List ℕ)) (line : ℕ) → line < length edges → length (get_or edges line []) ≤ edge_count edges
one_line [] line h = absurd (omega arith)
one_line (x ∷ xs) zero h = omega arith
one_line (x ∷ xs) (suc line) h = let rest = one_line xs line (omega arith) in omega arith

-- other edges on a line
count_set : (edges : List (List ℕ)) (line : ℕ) (new : List ℕ) → line < length edges → edge_count (set edges line new) + length (get_or edges line []) ≡ edge_count edges + length new
count_set [] line new h = absurd (omega arith)
count_set (x ∷ xs) zero new h = omega arith
count_set (x ∷ xs) (suc line) new h = let rest = count_set xs line new (omega arith) in omega arith

-- lists of edges with another list for a line
lists_with : (horizon : ℕ) (lists : List (List ℕ)) (line : ℕ) (new : List ℕ) → ((k : ℕ) → k < length lists → AreEdges horizon (get_or lists k [])) → line < length lists → AreEdges horizon new →
    (k : ℕ) → k < length (set lists line new) → AreEdges horizon (get_or (set lists line new) k [])
lists_with horizon lists line new are there is k below = elim (cases_eq k line) [
  | inl same ↦ subst (λ n. AreEdges horizon (get_or (set lists line new) n [])) (sym same) (subst (AreEdges horizon) (sym (get_or-set_same lists line new [] there)) is)
  | inr other ↦ subst (AreEdges horizon) (sym (get_or-set_other lists line k new [] other)) (are k (let same = length-set lists line new in omega arith))
]

-- the edges of a line with a slope
pub line_edges : (s : SignalsText) (slope : Slope) (line : ℕ) → IsSoundSignals s → line < 64 → AreEdges s.horizon (times_at s slope line)
line_edges s slopes.Rise line sound h = sound.edges line (omega (arith, sound.lines))
line_edges s slopes.Fall line sound h = sound.falls line (omega (arith, sound.fall_lines))

-- they are among all
among_all : (s : SignalsText) (slope : Slope) (line : ℕ) → IsSoundSignals s → line < 64 → length (times_at s slope line) ≤ edge_count s.edges + edge_count s.falls
among_all s slopes.Rise line sound h = let lines = sound.lines in let one = one_line s.edges line (omega arith) in omega arith
among_all s slopes.Fall line sound h = let lines = sound.fall_lines in let one = one_line s.falls line (omega arith) in omega arith

-- signals with other edges on a line
pub sound_with : (s : SignalsText) (slope : Slope) (line : ℕ) (new : List ℕ) → IsSoundSignals s → line < 64 → AreEdges s.horizon new →
    edge_count s.edges + edge_count s.falls + length new ≤ 10 ^ 5 + length (times_at s slope line) → IsSoundSignals (with_times s slope line new)
sound_with s slopes.Rise line new sound h are room =
    let lines = sound.lines in
    let counted = count_set s.edges line new (omega arith) in
    record {
      horizon = sound.horizon;
      lines = length-set s.edges line new ∙ sound.lines;
      fall_lines = sound.fall_lines;
      edges = lists_with s.horizon s.edges line new sound.edges (omega arith) are;
      falls = sound.falls;
      few_edges = omega arith;
      waves = sound.waves;
      own = sound.own;
      few_recorded = sound.few_recorded;
      ints = sound.ints;
      few_ints = sound.few_ints;
    }
sound_with s slopes.Fall line new sound h are room =
    let lines = sound.fall_lines in
    let counted = count_set s.falls line new (omega arith) in
    record {
      horizon = sound.horizon;
      lines = sound.lines;
      fall_lines = length-set s.falls line new ∙ sound.fall_lines;
      edges = sound.edges;
      falls = lists_with s.horizon s.falls line new sound.falls (omega arith) are;
      few_edges = omega arith;
      waves = sound.waves;
      own = sound.own;
      few_recorded = sound.few_recorded;
      ints = sound.ints;
      few_ints = sound.few_ints;
    }

-- where there is room none of the edges is late, and with all others they aren't too many
has_both : (s : SignalsText) (times : List ℕ) → has_room s times ≡ true → (list_all (λ time. nat_le time s.horizon) times ≡ true) × (edge_count s.edges + edge_count s.falls + length times ≤ 10 ^ 5)
has_both s times room =
    let parts = both (list_all (λ time. nat_le time s.horizon) times) (nat_le (edge_count s.edges + edge_count s.falls + length times) 100000) room in
    (parts.0, leb-true _ 100000 parts.1)

-- edges of one text line that may stand after those before them
pub record MayStand (s : SignalsText) (slope : Slope) (line : ℕ) (times : List ℕ) : Type 0 where
  pub below : line < 64
  pub room : has_room s times ≡ true
  pub rise : rises_from 0 (times_at s slope line ++ times) ≡ true

-- the edges of a line with those of one text line more
pub more_edges : (s : SignalsText) (slope : Slope) (line : ℕ) (times : List ℕ) → IsSoundSignals s → MayStand s slope line times → AreEdges s.horizon (times_at s slope line ++ times)
more_edges s slope line times sound may =
    let old = times_at s slope line in
    let room = has_both s times may.room in
    let few = room.1 in
    let one = among_all s slope line sound may.below in
    let long = length-append old times in
    record {
      rise = increasing 0 _ may.rise;
      within = λ k below. elim (cases_lt k (length old)) [
        | inl before ↦ subst (λ t. t ≤ s.horizon) (sym (get_or-append old times 0 k before)) ((line_edges s slope line sound may.below).within k before)
        | inr after ↦
            subst (λ t. t ≤ s.horizon) (sym (get_or-append_right old times k 0 after))
            (leb-true _ s.horizon (all_at (λ time. nat_le time s.horizon) times (k - length old) room.0 (omega arith)))
      ];
      few = omega arith;
    }

-- a place that a line names has at most so many edges, all of them early
pub early : (s : SignalsText) (times : List ℕ) → IsSoundSignals s → has_room s times ≡ true → (k : ℕ) → k < length times → get_or times k 0 ≤ 10 ^ 15
early s times sound room k h =
    let low = leb-true _ s.horizon (all_at (λ time. nat_le time s.horizon) times k (has_both s times room).0 h) in
    let high = sound.horizon in
    omega arith

-- the recorded levels with those of one wave more
recorded_more : (ws : List WaveAt) (w : WaveAt) → recorded_count (ws ++ w ∷ []) ≡ recorded_count ws + recorded_in w.wave
recorded_more [] w = omega arith
recorded_more (x ∷ xs) w = let rest = recorded_more xs w in omega arith

-- where there is room for them, they aren't too many
few_more : (s : SignalsText) (wave : Wave) → recorded_count s.waves ≤ 10 ^ 5 → has_record_room s wave ≡ true → recorded_count s.waves + recorded_in wave ≤ 10 ^ 5
few_more s wave few room = leb-true _ 100000 room

-- a wave that may stand with those before it
pub record MayWave (s : SignalsText) (w : WaveAt) : Type 0 where
  pub period : HasPeriod w.wave
  pub room : has_record_room s w.wave ≡ true
  pub own : list_any (is_at w.sub w.chan) s.waves ≡ false
  pub fine : is_fine w.wave ≡ true

-- one wave more
pub more_waves : (s : SignalsText) (w : WaveAt) → IsSoundSignals s → MayWave s w → IsSoundSignals (record s { waves = s.waves ++ w ∷ [] })
more_waves s w sound may = record {
  horizon = sound.horizon;
  lines = sound.lines;
  fall_lines = sound.fall_lines;
  edges = sound.edges;
  falls = sound.falls;
  few_edges = sound.few_edges;
  waves = All-push (λ x. IsWave x.wave) s.waves w sound.waves (is_wave w.wave may.period may.fine);
  own = own_more s.waves w sound.own may.own;
  few_recorded = let all = recorded_more s.waves w in let few = few_more s w.wave sound.few_recorded may.room in omega arith;
  ints = sound.ints;
  few_ints = sound.few_ints;
}

-- the edges of a line as they were, or with more
pub edges_either : (s : SignalsText) (slope : Slope) (line : ℕ) (times : List ℕ) (done : Bool) → IsSoundSignals s → MayStand s slope line times →
    IsSoundSignals (with_times s slope line (cond done (times_at s slope line ++ times) (times_at s slope line)))
edges_either s slope line times true sound may =
    let room = has_both s times may.room in
    let few = room.1 in
    let long = length-append (times_at s slope line) times in
    sound_with s slope line (times_at s slope line ++ times) sound may.below (more_edges s slope line times sound may) (omega arith)
edges_either s slope line times false sound may =
    let few = sound.few_edges in
    sound_with s slope line (times_at s slope line) sound may.below (line_edges s slope line sound may.below) (omega arith)

-- lists with more edges of a line, where there was memory
abbrev pub extended : List (List ℕ) → ℕ → List ℕ → Bool → List (List ℕ)
extended lists line times done = slice_set lists line (cond done (slice_index_or lists line [] ++ times) (slice_index_or lists line []))

-- the lists that a call has made from those of a vector
pub extended_items : (v : Vec (List ℕ)) (from new : List (List ℕ)) (line : ℕ) (more times : List ℕ) (done : Bool) → new ≡ extended from line more done → from ≡ v.items → more ≡ times →
    (with_items v new).items ≡ extended v.items line times done
extended_items v from new line more times done made e f =
    let is = made ∙ ap (λ (lists : List (List ℕ)). extended lists line more done) e ∙ ap (λ (ts : List ℕ). extended v.items line ts done) f in
    with_items_is v new (ap (length {A = List ℕ}) is ∙ length-set v.items line (cond done (slice_index_or v.items line [] ++ times) (slice_index_or v.items line [])) ∙ sym v.ok.0) ∙ is

no_edges_anywhere : (horizon n : ℕ) (line : ℕ) → AreEdges horizon (get_or (replicate n []) line [])
no_edges_anywhere horizon n line = subst (AreEdges horizon) (sym (nothing n line)) (record { rise = λ k h. absurd (omega arith); within = λ k h. absurd (omega arith); few = omega arith })
  where
    nothing : (n line : ℕ) → get_or (replicate {A = List ℕ} n []) line [] ≡ []
    nothing zero line = refl
    nothing (suc n) zero = refl
    nothing (suc n) (suc line) = nothing n line

none_counted : (n : ℕ) → edge_count (replicate n []) ≡ 0
none_counted zero = refl
none_counted (suc n) = let rest = none_counted n in omega arith

-- silence
pub silent_sound : (horizon : ℕ) → horizon ≤ 10 ^ 15 → IsSoundSignals (silent horizon)
unfolding have_own
silent_sound horizon h = record {
  horizon = h;
  lines = refl;
  fall_lines = refl;
  edges = λ line below. no_edges_anywhere horizon 64 line;
  falls = λ line below. no_edges_anywhere horizon 64 line;
  few_edges = let none = none_counted 64 in omega arith;
  waves = All-nil (λ x. IsWave x.wave);
  own = refl;
  few_recorded = omega arith;
  ints = All-nil (λ int. int.time ≤ horizon);
  few_ints = omega arith;
}

pub silent_like : (horizon : ℕ) (waves : List WaveAt) (edges falls : List (List ℕ)) (ints : List IntAt) → waves ≡ [] → edges ≡ replicate 64 [] → falls ≡ replicate 64 [] → ints ≡ [] → horizon ≤ 10 ^ 15 →
    IsSoundSignals (record { horizon = horizon; waves = waves; edges = edges; falls = falls; ints = ints })
silent_like horizon waves edges falls ints no_waves no_edges no_falls no_ints h =
    let same : ◌≡◌ {A = SignalsText} (record { horizon = horizon; waves = waves; edges = edges; falls = falls; ints = ints }) (silent horizon) =
    λ i. record { horizon = horizon; waves = no_waves i; edges = no_edges i; falls = no_falls i; ints = no_ints i } in
    subst IsSoundSignals (sym same) (silent_sound horizon h)

-- signals that fit a board still do with one line more that fits it
fits_more : (subs : List SubText) (s : SignalsText) (what : SignalLine) → FitBoard subs s → Fits subs what → FitBoard subs (with_said s what)
fits_more subs s (said.Wave w) fit fits = record { waves = All-push (HasChannel subs) s.waves w fit.waves fits; ints = fit.ints }
fits_more subs s (said.Edges slopes.Rise line times) fit fits = record { waves = fit.waves; ints = fit.ints }
fits_more subs s (said.Edges slopes.Fall line times) fit fits = record { waves = fit.waves; ints = fit.ints }
fits_more subs s (said.Int int) fit fits = record { waves = fit.waves; ints = All-push (HasSub subs) s.ints int fit.ints fits }

pub fits_with : {E : Type 0} (subs : List SubText) (s new : SignalsText) (what : SignalLine) (r : Result (Unit {0}) E) → FitBoard subs s → Fits subs what → OnOk r (new ≡ with_said s what) →
    OnOk r (FitBoard subs new)
fits_with subs s new what (Ok u) fit fits is = subst (FitBoard subs) (sym is) (fits_more subs s what fit fits)
fits_with subs s new what (Err e) fit fits is = tt
