-- Signals that are read from a text are sound, and fit their board.
use Rattle.std.proofs.Common.{◌≡◌, ℕ, ◌^◌, ◌≤◌, ◌<◌, Bool, true, false, cond, List, [], ◌∷◌, ◌++◌, length, drop, Ok, Err, refl, nat_lt, arith, length-append}
use Rattle.std.proofs.lemmas.Bool.Decides.{nat_tests}
use Rattle.std.proofs.lemmas.List.Elements.{All-nil, All-push}
use Rattle.std.specs.Prelude.{codes, slice_get, if◌then◌else◌}
use Rattle.std.specs.List.{list_any}
use Rattle.std.specs.Result.{IfOk}
use Rattle.cm_base.specs.Lines.{LineText}
use Rattle.cm_base.specs.Parts.{fixed}
use Rattle.cm_base.specs.Reading.{◌>>=◌, at_line, read_on}
use Rattle.cm_base.specs.Words.{Form, alone, each_word, limited, number_in, one_and_more, one_word, signed_number, three_and_more, three_words, four_words, values}
use Rattle.cm_base.specs.Words.{or_fault}
use Rattle.cm_base.specs.Numbers.{number_of}
use Rattle.cm_base.specs.declared.faults.Fault.{Fault}
use Rattle.cm_base.specs.declared.faults.Fault.TheVariants as faults
use Rattle.cm_base.proofs.Oks.{after_any, at_line_keeps, below_ok, fixed_ok, listed_ok, number_within, ok_keeps, then_ok, values_ok, weaker}
use Rattle.cm_board.specs.Board.{BoardText, SubText}
use Rattle.cm_board.specs.Versions.{is_wide, most_in, most_lines}
use Rattle.cm_signal.specs.Adding.{added, has_record_room, has_room, rises_from, silent, with_said}
use Rattle.cm_signal.specs.Channel.{channel_words, input_word, level_channels, period_word}
use Rattle.cm_signal.specs.Fitting.{FitBoard, Fits, HasChannel, HasSub}
use Rattle.cm_signal.specs.Said.{IsSaid}
use Rattle.cm_signal.specs.Signals.{IsSoundSignals, SignalsText, is_at, times_at}
use Rattle.cm_signal.specs.declared.wave.Wave.TheVariants.{Record}
use Rattle.cm_signal.specs.Wave.{wave_said, const_words, is_fine, levels_words, record_words, saw_words, square_words, swing_words, table_words, wave_forms, wave_words}
use Rattle.cm_signal.specs.declared.signal_line.SignalLine.{SignalLine}
use Rattle.cm_signal.specs.declared.signal_line.SignalLine.TheVariants as said
use Rattle.cm_signal.specs.declared.signals.IntAt.{IntAt}
use Rattle.cm_signal.specs.declared.signals.Slope.{Slope}
use Rattle.cm_signal.specs.declared.signals.Slope.TheVariants as slopes
use Rattle.cm_signal.proofs.Grown.{edges_either, fits_with, more_waves, silent_sound}
use Rattle.cm_signal_text.specs.SignalsPart.{edges_words, every_numbers, every_words, horizon_words, int_words, line_word, lines_after, lines_inside, said_after, said_line, said_words, signal_forms, signals_at, signals_of}
use Rattle.cm_signal_text.specs.SoundSignals.{SignalsAreSound}

-- what a line says keeps its limits, and speaks of what the board has
Good : List SubText → ℕ → SignalLine → Type 0
Good subs horizon what = IsSaid horizon what × Fits subs what

few_lines : (version : ℕ) → most_lines version ≤ 64
few_lines version = elim (is_wide version) as (λ b. (if b then 64 else 16) ≤ 64) [
  | true ↦ omega arith
  | false ↦ omega arith
]

line_ok : (version : ℕ) (w : List ℕ) → IfOk (line_word version w) (λ line. line < 64)
line_ok version w = weaker (λ n. n < most_lines version) (λ n. n < 64) (λ n h. let few = few_lines version in omega arith) (line_word version w) (below_ok (most_lines version) w)

edges_ok : (subs : List SubText) (slope : Slope) (version horizon : ℕ) (words : List (List ℕ)) → IfOk (edges_words slope version horizon words) (Good subs horizon)
unfolding Good
edges_ok subs slope version horizon words =
    after_any (Good subs horizon) (one_and_more words) _ (λ w.
    then_ok (λ line. line < 64) (Good subs horizon) (line_word version w.0) _ (line_ok version w.0) (λ line h.
    after_any (Good subs horizon) (each_word (number_in 0 horizon) [] w.1) _ (λ times. (h, tt))))

every_ok : (subs : List SubText) (version horizon : ℕ) (words : List (List ℕ)) → IfOk (every_words version words) (Good subs horizon)
unfolding Good
every_ok subs version horizon words =
    then_ok (λ (n : ℕ × ℕ × ℕ × ℕ). n.0 < 64) (Good subs horizon) (every_numbers version words) _
    (after_any _ (four_words words) _ (λ w.
    then_ok (λ line. line < 64) _ (line_word version w.0) _ (line_ok version w.0) (λ line h.
    after_any _ (or_fault faults.BadNumber (number_of w.1)) _ (λ first.
    after_any _ (period_word w.2) _ (λ period.
    after_any _ (number_in 1 100000 w.3) _ (λ count. h))))))
    (λ n h. (h, tt))

int_ok : (subs : List SubText) (horizon : ℕ) (words : List (List ℕ)) → IfOk (int_words subs horizon words) (Good subs horizon)
unfolding Good
int_ok subs horizon words =
    after_any (Good subs horizon) (three_words words) _ (λ w.
    then_ok (λ sub. sub < length subs) (Good subs horizon) _ _ (below_ok (length subs) w.0) (λ sub there.
    then_ok (λ time. (0 ≤ time) × (time ≤ horizon)) (Good subs horizon) (number_in 0 horizon w.1) _ (number_within 0 horizon w.1) (λ time by.
    after_any (Good subs horizon) (number_in 0 4294967295 w.2) _ (λ arg. (by.1, there)))))

-- a channel that has levels
HasLevels : List SubText → ℕ × ℕ → Type 0
HasLevels subs at = at.1 < level_channels (slice_get subs at.0)

channel_ok : (subs : List SubText) (sub chan : List ℕ) → IfOk (channel_words subs sub chan) (HasLevels subs)
unfolding HasLevels
channel_ok subs sub chan =
    after_any (HasLevels subs) (input_word subs sub) _ (λ s.
    then_ok (λ c. c < level_channels (slice_get subs s)) (HasLevels subs) _ _ (below_ok (level_channels (slice_get subs s)) chan) (λ c h. h))

const_ok : (subs : List SubText) (horizon : ℕ) (sub chan : List ℕ) (words : List (List ℕ)) → IfOk (const_words subs sub chan words) (Good subs horizon)
unfolding Good HasLevels
const_ok subs horizon sub chan words =
    after_any (Good subs horizon) (one_word words) _ (λ w.
    then_ok (HasLevels subs) (Good subs horizon) (channel_words subs sub chan) _ (channel_ok subs sub chan) (λ at h.
    after_any (Good subs horizon) (signed_number w) _ (λ v. (tt, h))))

period_ok : (w : List ℕ) → IfOk (period_word w) (λ p. (1 ≤ p) × (p ≤ 10 ^ 12))
period_ok w = number_within 1 1000000000000 w

swing_ok : (subs : List SubText) (sub chan : List ℕ) (words : List (List ℕ)) → IfOk (swing_words subs sub chan words) (λ s. HasLevels subs s.0 × (1 ≤ s.3) × (s.3 ≤ 10 ^ 12))
swing_ok subs sub chan words =
    after_any _ (three_words words) _ (λ w.
    then_ok (HasLevels subs) _ (channel_words subs sub chan) _ (channel_ok subs sub chan) (λ at h.
    after_any _ (signed_number w.0) _ (λ low. after_any _ (signed_number w.1) _ (λ high.
    then_ok (λ p. (1 ≤ p) × (p ≤ 10 ^ 12)) _ (period_word w.2) _ (period_ok w.2) (λ period p. (h, p.0, p.1))))))

square_ok : (subs : List SubText) (horizon : ℕ) (sub chan : List ℕ) (words : List (List ℕ)) → IfOk (square_words subs sub chan words) (Good subs horizon)
unfolding Good HasLevels
square_ok subs horizon sub chan words = then_ok _ (Good subs horizon) (swing_words subs sub chan words) _ (swing_ok subs sub chan words) (λ s h. ((h.1, h.2), h.0))

saw_ok : (subs : List SubText) (horizon : ℕ) (sub chan : List ℕ) (words : List (List ℕ)) → IfOk (saw_words subs sub chan words) (Good subs horizon)
unfolding Good HasLevels
saw_ok subs horizon sub chan words = then_ok _ (Good subs horizon) (swing_words subs sub chan words) _ (swing_ok subs sub chan words) (λ s h. ((h.1, h.2), h.0))

more_some : (words : List (List ℕ)) → IfOk (one_and_more words) (λ w. 1 ≤ length w.1)
more_some [] = tt
more_some (v ∷ []) = tt
more_some (v ∷ w ∷ more) = omega arith

levels_ok : (most : ℕ) (subs : List SubText) (sub chan : List ℕ) (words : List (List ℕ)) →
    IfOk (levels_words most subs sub chan words) (λ l. HasLevels subs l.0 × ((1 ≤ l.1) × (l.1 ≤ 10 ^ 12) × (1 ≤ length l.2)) × (length l.2 ≤ most))
levels_ok most subs sub chan words =
    then_ok (λ w. 1 ≤ length w.1) _ (one_and_more words) _ (more_some words) (λ w some.
    then_ok (HasLevels subs) _ (channel_words subs sub chan) _ (channel_ok subs sub chan) (λ at h.
    then_ok (λ p. (1 ≤ p) × (p ≤ 10 ^ 12)) _ (period_word w.0) _ (period_ok w.0) (λ period p.
    then_ok (λ xs. (length xs ≤ most) × (length xs ≡ length w.1)) _ (values most signed_number [] w.1) _ (values_ok most signed_number w.1) (λ levels k.
    (h, (p.0, p.1, omega (arith, some, k.1)), k.0)))))

table_ok : (subs : List SubText) (horizon : ℕ) (sub chan : List ℕ) (words : List (List ℕ)) → IfOk (table_words subs sub chan words) (Good subs horizon)
unfolding Good HasLevels
table_ok subs horizon sub chan words = then_ok _ (Good subs horizon) (levels_words 64 subs sub chan words) _ (levels_ok 64 subs sub chan words) (λ l h. ((h.1, h.2), h.0))

record_ok : (board : BoardText) (horizon : ℕ) (sub chan : List ℕ) (words : List (List ℕ)) → IfOk (record_words board sub chan words) (Good board.subs horizon)
unfolding Good HasLevels
record_ok board horizon sub chan words = by (is_wide board.version)
  where
    by : (b : Bool) → IfOk (cond b (levels_words (length words) board.subs sub chan words >>= λ l. Ok (wave_said l.0 (Record l.1 l.2))) (Err faults.Unknown)) (Good board.subs horizon)
    by true = then_ok _ (Good board.subs horizon) (levels_words (length words) board.subs sub chan words) _ (levels_ok (length words) board.subs sub chan words) (λ l h. (h.1, h.0))
    by false = tt

-- the waves by their names
AreGood : List SubText → ℕ → (List ℕ → List ℕ → Form SignalLine) → Type 0
AreGood subs horizon form = (sub chan : List ℕ) (words : List (List ℕ)) → IfOk (form sub chan words) (Good subs horizon)

wave_ok : (board : BoardText) (horizon : ℕ) (words : List (List ℕ)) → IfOk (wave_words board words) (Good board.subs horizon)
unfolding AreGood
wave_ok board horizon words =
    after_any (Good board.subs horizon) (three_and_more words) _ (λ w.
    then_ok (AreGood board.subs horizon) (Good board.subs horizon) _ _
    (listed_ok (AreGood board.subs horizon) (wave_forms board) w.2
    (const_ok board.subs horizon, (square_ok board.subs horizon, (saw_ok board.subs horizon, (table_ok board.subs horizon, (record_ok board horizon, tt))))))
    (λ form h. h w.0 w.1 w.3))

IsGood : List SubText → ℕ → Form SignalLine → Type 0
IsGood subs horizon form = (words : List (List ℕ)) → IfOk (form words) (Good subs horizon)

words_ok : (board : BoardText) (horizon : ℕ) (words : List (List ℕ)) → IfOk (said_words board horizon words) (Good board.subs horizon)
unfolding IsGood
words_ok board horizon [] = tt
words_ok board horizon (key ∷ words) =
    then_ok (IsGood board.subs horizon) (Good board.subs horizon) _ _
    (listed_ok (IsGood board.subs horizon) (signal_forms board horizon) key
    (wave_ok board horizon, (edges_ok board.subs slopes.Rise board.version horizon, (edges_ok board.subs slopes.Fall board.version horizon, (every_ok board.subs board.version horizon, (int_ok board.subs horizon, tt))))))
    (λ form h. h words)

said_ok : (board : BoardText) (horizon : ℕ) (line : LineText) → IfOk (said_line board horizon line) (Good board.subs horizon)
said_ok board horizon line = by line.bad
  where
    by : (b : Bool) → IfOk (cond b (Err faults.BadLine) (said_words board horizon line.words)) (Good board.subs horizon)
    by true = tt
    by false = words_ok board horizon line.words

-- signals that are sound and fit a board
Sound : List SubText → SignalsText → Type 0
Sound subs s = IsSoundSignals s × FitBoard subs s

few_ints : (n : ℕ) → nat_lt n 1000 ≡ true → n < 1000
few_ints n h = grind (arith, nat_tests)

int_more : (s : SignalsText) (int : IntAt) → IsSoundSignals s → int.time ≤ s.horizon → nat_lt (length s.ints) 1000 ≡ true → IsSoundSignals (record s { ints = s.ints ++ int ∷ [] })
int_more s int sound by room = record {
  horizon = sound.horizon;
  lines = sound.lines;
  fall_lines = sound.fall_lines;
  edges = sound.edges;
  falls = sound.falls;
  few_edges = sound.few_edges;
  waves = sound.waves;
  own = sound.own;
  few_recorded = sound.few_recorded;
  ints = All-push (λ (i : IntAt). i.time ≤ s.horizon) s.ints int sound.ints by;
  few_ints = let few = few_ints (length s.ints) room in let long = length-append s.ints (int ∷ []) in omega arith;
}

added_ok : (subs : List SubText) (s : SignalsText) (what : SignalLine) → Sound subs s → Good subs s.horizon what → IfOk (added s what) (Sound subs)
unfolding Sound Good
added_ok subs s (said.Wave w) sound good = by (has_record_room s w.wave) (list_any (is_at w.sub w.chan) s.waves) (is_fine w.wave) refl refl refl
  where
    by : (room other fine : Bool) → has_record_room s w.wave ≡ room → list_any (is_at w.sub w.chan) s.waves ≡ other → is_fine w.wave ≡ fine →
        IfOk (cond room (cond other (Err faults.Double) (cond fine (Ok (tt {0})) (Err faults.Bad))) (Err faults.Limit) >>= λ fits. Ok (with_said s (said.Wave w))) (Sound subs)
    by true false true r o f =
        (more_waves s w sound.0 (record { period = good.0; room = r; own = o; fine = f }), fits_with {E = Fault} subs s (with_said s (said.Wave w)) (said.Wave w) (Ok tt) sound.1 good.1 refl)
    by true false false r o f = tt
    by true true fine r o f = tt
    by false other fine r o f = tt
added_ok subs s (said.Edges slope line times) sound good = by (has_room s times) (rises_from 0 (times_at s slope line ++ times)) refl refl
  where
    by : (room rise : Bool) → has_room s times ≡ room → rises_from 0 (times_at s slope line ++ times) ≡ rise →
        IfOk (cond room (cond rise (Ok (tt {0})) (Err faults.Bad)) (Err faults.Limit) >>= λ fits. Ok (with_said s (said.Edges slope line times))) (Sound subs)
    by true true r u =
        (edges_either s slope line times true sound.0 (record { below = good.0; room = r; rise = u }), fits_with {E = Fault} subs s (with_said s (said.Edges slope line times)) (said.Edges slope line times) (Ok tt) sound.1 good.1 refl)
    by true false r u = tt
    by false rise r u = tt
added_ok subs s (said.Int int) sound good = by (nat_lt (length s.ints) 1000) refl
  where
    by : (room : Bool) → nat_lt (length s.ints) 1000 ≡ room → IfOk (limited {X = Unit {0}} room (tt {0}) >>= λ fits. Ok (with_said s (said.Int int))) (Sound subs)
    by true r = (int_more s int sound.0 good.0 r, fits_with {E = Fault} subs s (with_said s (said.Int int)) (said.Int int) (Ok tt) sound.1 good.1 refl)
    by false r = tt

after_ok : (board : BoardText) (s : SignalsText) (line : LineText) → Sound board.subs s → IfOk (said_after board s line) (Sound board.subs)
after_ok board s line sound = then_ok (Good board.subs s.horizon) (Sound board.subs) (said_line board s.horizon line) _ (said_ok board s.horizon line) (λ what good. added_ok board.subs s what sound good)

lines_ok : (board : BoardText) (s : SignalsText) (lines : List LineText) → Sound board.subs s → IfOk (read_on (said_after board) s lines) (Sound board.subs)
lines_ok board s [] sound = sound
lines_ok board s (line ∷ rest) sound =
    then_ok (Sound board.subs) (Sound board.subs) (at_line line.number (said_after board s line)) _ (at_line_keeps (Sound board.subs) line.number (said_after board s line) (after_ok board s line sound))
    (λ more good. lines_ok board more rest good)

most_horizon : (version : ℕ) → most_in version 1000000000000 1000000000000000 ≤ 10 ^ 15
most_horizon version = elim (is_wide version) as (λ b. (if b then 1000000000000000 else 1000000000000) ≤ 10 ^ 15) [
  | true ↦ omega arith
  | false ↦ omega arith
]

horizon_ok : (version : ℕ) (words : List (List ℕ)) → IfOk (horizon_words version words) (λ h. h ≤ 10 ^ 15)
horizon_ok version words =
    after_any _ (one_word words) _ (λ w.
    then_ok (λ n. (0 ≤ n) × (n ≤ most_in version 1000000000000 1000000000000000)) _ _ _ (number_within 0 (most_in version 1000000000000 1000000000000000) w) (λ n h. let most = most_horizon version in let low = h.1 in omega arith))

silent_fits : (subs : List SubText) (horizon : ℕ) → FitBoard subs (silent horizon)
silent_fits subs horizon = record { waves = All-nil (HasChannel subs); ints = All-nil (HasSub subs) }

AreSound : List SubText → SignalsText × ℕ → Type 0
AreSound subs r = Sound subs r.0

part_ok : (board : BoardText) (end : ℕ) (lines : List LineText) → IfOk (signals_of board end lines) (AreSound board.subs)
unfolding AreSound Sound
part_ok board end lines =
    then_ok (λ h. h ≤ 10 ^ 15) (AreSound board.subs) (fixed end (codes "signals") (horizon_words board.version) lines) _
    (fixed_ok (λ h. h ≤ 10 ^ 15) end (codes "signals") (horizon_words board.version) lines (horizon_ok board.version)) (λ horizon h.
    then_ok (Sound board.subs) (AreSound board.subs) (read_on (said_after board) (silent horizon) (lines_inside (drop 1 lines))) _
    (lines_ok board (silent horizon) (lines_inside (drop 1 lines)) (silent_sound horizon h, silent_fits board.subs horizon)) (λ signals sound.
    after_any (AreSound board.subs) (fixed end (codes "session") (alone true) (lines_after (drop 1 lines))) _ (λ closed. sound)))

pub signals_sound : SignalsAreSound
unfolding AreSound Sound
signals_sound board end at place lines signals e =
    ok_keeps (AreSound board.subs) (signals_at board end at lines) (signals, place) e
    (then_ok (AreSound board.subs) (AreSound board.subs) (signals_of board end (drop at lines)) _ (part_ok board end (drop at lines)) (λ r sound. sound))
