-- Raw words of a board that are taken together.
use Rattle.std.proofs.Common.{◌≡◌, ℕ, zero, suc, ◌+◌, ◌-◌, ◌*◌, ◌%◌, ◌^◌, ◌<◌, ◌≤◌, List, [], ◌∷◌, ◌++◌, length, map, take, drop, set, Option, Some, None, true, refl, ap, sym, ◌∙◌, arith, append_assoc, drop-drop, length-append, length-drop, mul-le-mul_right}
use Rattle.std.specs.Prelude.{nat_le, slice_get, IfSome, Ok}
use Rattle.std.proofs.lemmas.Bool.{cond-true, le-leb}
use Rattle.std.proofs.lemmas.List.{drop_at, length-take-le, map-append}
use Rattle.std.proofs.lemmas.Slice.{take-put_mid}
use borrow.Rule.Slice.PartMut.{put_mid}
use Rattle.std.proofs.lemmas.Option.{slice_get-get_or}
use Rattle.std.proofs.Math.Nat.{mod-add-mod}
use Rattle.std.proofs.Math.Seq.{take-add}
use Rattle.cm_sample.specs.Rule.{map_from}
use Rattle.cm_signal.specs.Adding.{progression}
use Rattle.cm_signal.proofs.Progressions.{later_time}
use Rattle.cm_expand.specs.Board.{IsBoard}
use Rattle.cm_expand.specs.Timing.{Timing as TimingText, IsTiming, as_long_as, conversion, next_begin}
use Rattle.cm_expand.specs.TimingView.{timing_text}
use Rattle.cm_expand.specs.Item.{AreItems, item_raw}
use Rattle.cm_expand.specs.Items.{conv_at, items_of, raw_at}
use Rattle.cm_expand.specs.Plan.{PlanText, times_of}
use Rattle.cm_expand.specs.TimePoint.{rest_from, scans_from}
use Rattle.cm_expand.specs.Taking.{come_first, raw_words}
use Rattle.cm_expand.specs.Train.{IsTrain}
use Rattle.cm_expand.specs.declared.conv.Conv.{Conv}
use Rattle.cm_expand.specs.declared.timing.Timing.{Timing}
use Rattle.cm_expand.specs.declared.timing.TimePoint.{TimePoint}
use Rattle.cm_expand.specs.declared.item.EntryWords.{EntryWords}
use Rattle.cm_expand.specs.declared.item.EntryWords.TheVariants.{Same}
use Rattle.cm_expand.specs.declared.train.Train.{Train}
use Rattle.cm_expand.proofs.Conversions.{up_to_is}
use Rattle.cm_expand.proofs.Raws.{same_raws}
use Rattle.cm_expand.proofs.Scans.{rest_step}

-- one word in a list of one
pub single : (f : ℕ → ℕ) (words : List ℕ) (word first step : ℕ) → length words ≡ 1 → word ≡ f first → set words 0 word ≡ map f (progression first step (length words))
single f [] word first step one is = absurd (cc)
single f (w ∷ []) word first step one is = ap (λ v. v ∷ []) is
single f (w ∷ v ∷ words) word first step one is = absurd (cc)

-- what a list entry reads by its item
pub by_item : (p : PlanText) (items : List EntryWords) (i : ℕ) (words times : List ℕ) → AreItems p items → i < length p.cmd.list →
    IfSome (slice_get items i) (λ item. words ≡ map (item_raw item) times) → words ≡ map (raw_at p i) times
by_item p items i words times are within by =
    let all = are.all in
    let there = slice_get-get_or items i (Same 0) (omega arith) in
    at (slice_get items i) _ there refl by
  where
    at : (o : Option EntryWords) (item : EntryWords) → o ≡ Some item → slice_get items i ≡ o → IfSome o (λ item. words ≡ map (item_raw item) times) → words ≡ map (raw_at p i) times
    at None item e same by = absurd (cc)
    at (Some other) item e same by = by ∙ same_raws (item_raw other) (raw_at p i) times (are.each i other same)

-- the words of a train are far from the greatest number
pub train_small : (c : Timing) (s : TimePoint) (t : Train) → IsTiming (timing_text c) → IsTrain (timing_text c) s t → t.step < 2 ^ 32 → s.time + t.count * t.step < 2 ^ 64
train_small c s t timing is short =
    let some = is.some in
    let time = is.time in
    let horizon = timing.horizon in
    let within = (up_to_is c.horizon _ t.last.time is.is.here).1 in
    let count : t.count ≡ suc (t.count - 1) = omega arith in
    let all : t.count * t.step ≡ suc (t.count - 1) * t.step = ap (λ n. n * t.step) count in
    omega arith

-- each conversion of a train is of the same list entry
pub entry_at : (p : PlanText) (place : ℕ) (c : Timing) (s : TimePoint) (t : Train) → IsBoard p place (Ok (record { timing = c; point = s })) → IsTrain (timing_text c) s t →
    (k : ℕ) → k < t.count → s.index ≡ (place + k) % length p.cmd.list
entry_at p place c s t is train k below =
    sym (train.entry k below)
    ∙ ap (λ n. (s.index + k) % n) is.running.per_scan
    ∙ ap (λ i. (i + k) % length p.cmd.list) is.running.index
    ∙ mod-add-mod place (length p.cmd.list) k

-- a board that goes on to the last conversion of a train
pub board_train : (p : PlanText) (place : ℕ) (c : Timing) (s : TimePoint) (t : Train) → IsBoard p place (Ok (record { timing = c; point = s })) → IsTrain (timing_text c) s t →
    IsBoard p (place + (t.count - 1)) (Ok (record { timing = c; point = t.last }))
board_train p place c s t is train = record {
  expansion = is.expansion;
  rest = sym (drop-drop (t.count - 1) place (times_of p)) ∙ ap (drop (t.count - 1)) left ∙ drop_at (progression s.time t.step (t.count - 1)) (rest_from (timing_text c) t.last) (t.count - 1) (counted s.time t.step (t.count - 1));
  within =
      let some = ap (length {A = ℕ}) left in
      let inside = is.within in
      omega (arith, length-drop place (times_of p), length-append (progression s.time t.step (t.count - 1)) (rest_from (timing_text c) t.last), counted s.time t.step (t.count - 1));
  full = is.full ∙ train.full;
  running = record {
    same = is.running.same;
    timing = is.running.timing;
    point = train.is;
    per_scan = is.running.per_scan;
    index = train.index ∙ entry_at p place c s t is train (t.count - 1) (let some = train.some in omega arith);
  };
}
  where
    left : drop place (times_of p) ≡ progression s.time t.step (t.count - 1) ++ rest_from (timing_text c) t.last
    left = is.rest ∙ train.times

    counted : (first step n : ℕ) → length (progression first step n) ≡ n
    counted first step zero = refl
    counted first step (suc n) = ap suc (counted (first + step) step n)

-- the conversions that are left where a train comes first
pub record IsLeft (p : PlanText) (place : ℕ) (left : List Conv) (s : TimePoint) (t : Train) : Type 0 where
  pub more : List ℕ
  pub is : left ≡ map_from (conv_at p) place (progression s.time t.step t.count ++ more)

drop-map_from : (f : ℕ → ℕ → Conv) (place n : ℕ) (xs : List ℕ) → drop n (map_from f place xs) ≡ map_from f (place + n) (drop n xs)
drop-map_from f place zero xs = ap (λ k. map_from f k xs) (omega arith)
drop-map_from f place (suc n) [] = refl
drop-map_from f place (suc n) (x ∷ xs) = drop-map_from f (suc place) n xs ∙ ap (λ k. map_from f k (drop n xs)) (omega arith)

-- the times after that of a point
abbrev after : TimingText → TimePoint → List ℕ
after c s = as_long_as (conversion c s.begin) (suc s.index) (c.per_scan - s.index - 1) ++ scans_from c s.left (next_begin c s.begin)

pub left_train : (p : PlanText) (place k : ℕ) (c : Timing) (s : TimePoint) (t : Train) → IsBoard p (place + k) (Ok (record { timing = c; point = s })) → IsTrain (timing_text c) s t →
    IsLeft p (place + k) (drop k (drop place (items_of p))) s t
left_train p place k c s t is train = record {
  more = more;
  is =
      drop-drop k place (items_of p)
      ∙ drop-map_from (conv_at p) 0 (place + k) (times_of p)
      ∙ ap (λ n. map_from (conv_at p) n (drop (place + k) (times_of p))) there
      ∙ ap (map_from (conv_at p) (place + k))
      (is.rest ∙ train.times ∙ ap (λ (xs : List ℕ). before ++ xs) (rest_step (timing_text c) t.last train.is)
      ∙ ap (λ (time : ℕ). before ++ time ∷ more) train.time
      ∙ sym (append_assoc before (last ∷ []) more)
      ∙ ap (λ (xs : List ℕ). xs ++ more) (sym (later_time s.time t.step (t.count - 1)))
      ∙ ap (λ n. progression s.time t.step n ++ more) count);
}
  where
    more : List ℕ
    more = after (timing_text c) t.last

    before : List ℕ
    before = progression s.time t.step (t.count - 1)

    last : ℕ
    last = s.time + (t.count - 1) * t.step

    count : suc (t.count - 1) ≡ t.count
    count = let some = train.some in omega arith

    there : 0 + (place + k) ≡ place + k
    there = omega arith

-- their raw words
words_of_first : (p : PlanText) (place i first step n : ℕ) (more : List ℕ) → ((k : ℕ) → k < n → i ≡ (place + k) % length p.cmd.list) →
    raw_words (take n (map_from (conv_at p) place (progression first step n ++ more))) ≡ map (raw_at p i) (progression first step n)
words_of_first p place i first step zero more entry = refl
words_of_first p place i first step (suc n) more entry =
    let here : place + 0 ≡ place = omega arith in
    let first_entry = entry 0 (omega arith) ∙ ap (λ k. k % length p.cmd.list) here in
    let others = words_of_first p (suc place) i (first + step) step n more (λ k h. entry (suc k) (omega arith) ∙ ap (λ m. m % length p.cmd.list) (omega arith)) in
    ap (λ e. raw_at p e first ∷ raw_words (take n (map_from (conv_at p) (suc place) (progression (first + step) step n ++ more)))) (sym first_entry)
    ∙ ap (λ (ws : List ℕ). raw_at p i first ∷ ws) others

-- all of them have come
come_of_first : (p : PlanText) (place first step n time : ℕ) (more : List ℕ) → ((k : ℕ) → k < n → first + k * step ≤ time) →
    come_first time (map_from (conv_at p) place (progression first step n ++ more)) ≡ n + come_first time (drop n (map_from (conv_at p) place (progression first step n ++ more)))
come_of_first p place first step zero time more come = omega arith
come_of_first p place first step (suc n) time more come =
    let early = come 0 (omega arith) in
    let now : nat_le first time ≡ true = le-leb first time (omega arith) in
    let others = come_of_first p (suc place) (first + step) step n time more (λ k h. let early = come (suc k) (omega arith) in omega arith) in
    cond-true (nat_le first time) _ _ now ∙ omega arith

-- the raw words of a train that comes first, and that all of it has come
pub record IsTakenFirst (p : PlanText) (left : List Conv) (s : TimePoint) (t : Train) (time : ℕ) : Type 0 where
  pub words : raw_words (take t.count left) ≡ map (raw_at p s.index) (progression s.time t.step t.count)
  pub come : come_first time left ≡ t.count + come_first time (drop t.count left)

pub taken_first : (p : PlanText) (place k time : ℕ) (c : Timing) (s : TimePoint) (t : Train) → IsBoard p (place + k) (Ok (record { timing = c; point = s })) → IsTrain (timing_text c) s t → t.last.time ≤ time →
    IsTakenFirst p (drop k (drop place (items_of p))) s t time
taken_first p place k time c s t is train come =
    let left = left_train p place k c s t is train in
    record {
      words = ap (λ (cs : List Conv). raw_words (take t.count cs)) left.is ∙ words_of_first p (place + k) s.index s.time t.step t.count left.more (entry_at p (place + k) c s t is train);
      come = ap (come_first time) left.is ∙ come_of_first p (place + k) s.time t.step t.count time left.more each ∙ ap (λ (cs : List Conv). t.count + come_first time (drop t.count cs)) (sym left.is);
    }
  where
    each : (k : ℕ) → k < t.count → s.time + k * t.step ≤ time
    each k below =
        let last = train.time in
        let fewer : k * t.step ≤ (t.count - 1) * t.step = mul-le-mul_right t.step (omega arith) in
        omega arith

-- words that are put in the middle of others, and how many there are then
pub put_middle : (at n : ℕ) (out words : List ℕ) → at + n ≤ length out → length words ≡ n → length (put_mid at n out words) ≡ length out
put_middle at n out words within many =
    omega (arith, length-append (take at out) (words ++ drop n (drop at out)), length-append words (drop n (drop at out)), length-take-le at out (omega arith), length-drop n (drop at out), length-drop at out)

-- the words so far, and then those of a train
pub words_and_more : (p : PlanText) (place at k n time : ℕ) (s : TimePoint) (t : Train) (out words : List ℕ) → at ≤ length out → length words ≡ t.count → n ≡ at + t.count →
    take at out ≡ raw_words (take at (drop place (items_of p))) → words ≡ map (raw_at p s.index) (progression s.time t.step t.count) → IsTakenFirst p (drop at (drop place (items_of p))) s t time →
    take n (put_mid at k out words) ≡ raw_words (take n (drop place (items_of p)))
words_and_more p place at k n time s t out words within many all so_far these first =
    take-put_mid at k out words n (omega arith) within
    ∙ ap (λ (ws : List ℕ). ws ++ words) so_far
    ∙ ap (λ (ws : List ℕ). raw_words (take at left) ++ ws) (these ∙ sym first.words)
    ∙ sym (map-append (λ (conv : Conv). conv.raw) (take at left) (take t.count (drop at left)))
    ∙ sym (ap raw_words (ap (λ m. take m left) all ∙ take-add at t.count left))
  where
    left : List Conv
    left = drop place (items_of p)
