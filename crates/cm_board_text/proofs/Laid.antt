-- The rows that are laid out for a block, and what each keeps.
use Rattle.std.proofs.Common.{◌≡◌, ℕ, zero, suc, ◌+◌, ◌-◌, ◌*◌, ◌<◌, ◌≤◌, Bool, true, false, cond, not, ◌&&◌, ◌||◌, List, [], ◌∷◌, ◌++◌, map, flat_map, length, refl, sym, ap, ◌∙◌, subst, arith, ◌==◌, nat_le, nat_lt, append_assoc, append-nil, length-append}
use Rattle.std.specs.List.{list_all, range_with_len}
use Rattle.std.proofs.lemmas.List.{length-map}
use Rattle.std.proofs.lemmas.Bool.{eq-eqb, eqb-true, leb-true, ltb-false, ltb-true}
use Rattle.std.proofs.lemmas.List.Folds.{list_all-append}
use Rattle.std.proofs.lemmas.Nat.{mul-add-lt}
use Rattle.cm_base.proofs.Bools.{and_true, both}
use Rattle.cm_board.specs.Kept.{are_kept, is_good, is_kept, keeps}
use Rattle.cm_board.specs.Rules.{keeps_rule}
use Rattle.cm_board.specs.Slots.{default_of}
use Rattle.cm_board.specs.Table.{FormText, TableText, WordText, Fixed, Number, Signed, Sources, Source, Name, Channel, Divisors, channel_of, channel_row, form_at, laid, may_stand, no_row, own_row, place_of, row_at}
use Rattle.cm_board.specs.declared.table.Absent.{Absent}
use Rattle.cm_board.specs.declared.table.Absent.TheVariants as absents
use Rattle.cm_board.specs.declared.table.Head.{Head}
use Rattle.cm_board.specs.declared.table.Row.{Row}
use Rattle.cm_board.specs.declared.table.Value.{Value}
use Rattle.cm_board.specs.declared.table.Value.TheVariants as values_of
use Rattle.cm_board_text.proofs.MostIn.{least_most, within}
use Rattle.cm_board_text.specs.Reading.{most_of}
use Rattle.cm_board_text.specs.IsTable.{all_apart, are_rows, has_form, is_constant, is_headed, is_listed, is_nothing, is_of_channel, is_proper, is_table, keeps_default, some_head}

-- rows by their places in lists that are put together
at_map : (f : Row → Row) (n : ℕ) (rows : List Row) → n < length rows → row_at n (map f rows) ≡ f (row_at n rows)
at_map f n [] h = absurd (omega arith)
at_map f zero (row ∷ rows) h = refl
at_map f (suc n) (row ∷ rows) h = at_map f n rows (omega arith)

at_first : (n : ℕ) (a b : List Row) → n < length a → row_at n (a ++ b) ≡ row_at n a
at_first n [] b h = absurd (omega arith)
at_first zero (row ∷ a) b h = refl
at_first (suc n) (row ∷ a) b h = at_first n a b (omega arith)

at_second : (n : ℕ) (a b : List Row) → row_at (length a + n) (a ++ b) ≡ row_at n b
at_second n [] b = ap (λ (m : ℕ). row_at m b) (omega arith)
at_second n (row ∷ a) b =
    let place : length (row ∷ a) + n ≡ suc (length a + n) = omega arith in
    ap (λ (m : ℕ). row_at m (row ∷ (a ++ b))) place ∙ at_second n a b

-- the rows of the channels
each : ℕ → ℕ → List Row → List Row
each first channels rows = flat_map (λ chan. map channel_row rows) (range_with_len first channels)

length_each : (first channels : ℕ) (rows : List Row) → length (each first channels rows) ≡ channels * length rows
unfolding each
length_each first zero rows = omega arith
length_each first (suc channels) rows =
    let later = length_each (first + 1) channels rows in
    let parts = length-append (map channel_row rows) (flat_map (λ chan. map channel_row rows) (range_with_len (first + 1) channels)) in
    let here = length-map rows channel_row in
    omega (arith, later, parts, here)

at_each : (first channels chan n : ℕ) (rows : List Row) → chan < channels → n < length rows →
    row_at (chan * length rows + n) (each first channels rows) ≡ channel_row (row_at n rows)
unfolding each
at_each first zero chan n rows c h = absurd (omega arith)
at_each first (suc channels) zero n rows c h =
    let here : n < length (map channel_row rows) = omega (arith, h, length-map rows channel_row) in
    ap (λ (m : ℕ). row_at m (map channel_row rows ++ flat_map (λ chan. map channel_row rows) (range_with_len (first + 1) channels))) (omega arith)
    ∙ at_first n (map channel_row rows) (flat_map (λ chan. map channel_row rows) (range_with_len (first + 1) channels)) here
    ∙ at_map channel_row n rows h
at_each first (suc channels) (suc chan) n rows c h =
    let k : ℕ = chan * length rows + n in
    let place : suc chan * length rows + n ≡ length (map channel_row rows) + (chan * length rows + n) = omega (arith, length-map rows channel_row) in
    ap (λ (m : ℕ). row_at m (map channel_row rows ++ flat_map (λ chan. map channel_row rows) (range_with_len (first + 1) channels))) place
    ∙ at_second k (map channel_row rows) (flat_map (λ chan. map channel_row rows) (range_with_len (first + 1) channels))
    ∙ at_each (first + 1) channels chan n rows (omega arith) h

-- the rows that are laid out, by their places
pub length_laid : (channels : ℕ) (rows : List Row) → length (laid channels rows) ≡ (channels + 1) * length rows
unfolding each
length_laid channels rows =
    let parts = length-append (map own_row rows) (flat_map (λ chan. map channel_row rows) (range_with_len 0 channels)) in
    let here = length-map rows own_row in
    let later = length_each 0 channels rows in
    omega (arith, parts, here, later)

at_own : (channels n : ℕ) (rows : List Row) → n < length rows → row_at n (laid channels rows) ≡ own_row (row_at n rows)
at_own channels n rows h =
    let here : n < length (map own_row rows) = omega (arith, h, length-map rows own_row) in
    at_first n (map own_row rows) (flat_map (λ chan. map channel_row rows) (range_with_len 0 channels)) here ∙ at_map own_row n rows h

at_later : (channels n : ℕ) (rows : List Row) → row_at (length rows + n) (laid channels rows) ≡ row_at n (each 0 channels rows)
unfolding each
at_later channels n rows =
    ap (λ (m : ℕ). row_at m (laid channels rows)) (ap (λ (m : ℕ). m + n) (sym (length-map rows own_row)))
    ∙ at_second n (map own_row rows) (flat_map (λ chan. map channel_row rows) (range_with_len 0 channels))

at_channel : (channels chan n : ℕ) (rows : List Row) → chan < channels → n < length rows →
    row_at ((chan + 1) * length rows + n) (laid channels rows) ≡ channel_row (row_at n rows)
at_channel channels chan n rows c h =
    let place : (chan + 1) * length rows + n ≡ length rows + (chan * length rows + n) = omega arith in
    ap (λ (m : ℕ). row_at m (laid channels rows)) place ∙ at_later channels (chan * length rows + n) rows ∙ at_each 0 channels chan n rows c h

-- the rows of a channel more
each_more : (first channels : ℕ) (rows : List Row) → each first (suc channels) rows ≡ each first channels rows ++ map channel_row rows
unfolding each
each_more first zero rows = append-nil (map channel_row rows)
each_more first (suc channels) rows =
    ap (λ (xs : List Row). map channel_row rows ++ xs) (each_more (first + 1) channels rows)
    ∙ sym (append_assoc (map channel_row rows) (flat_map (λ chan. map channel_row rows) (range_with_len (first + 1) channels)) (map channel_row rows))

pub laid_more : (channels : ℕ) (rows : List Row) → laid (channels + 1) rows ≡ laid channels rows ++ map channel_row rows
unfolding each
laid_more channels rows =
    let more : channels + 1 ≡ suc channels = omega arith in
    ap (λ (m : ℕ). laid m rows) more ∙ ap (λ (xs : List Row). map own_row rows ++ xs) (each_more 0 channels rows)
    ∙ sym (append_assoc (map own_row rows) (flat_map (λ chan. map channel_row rows) (range_with_len 0 channels)) (map channel_row rows))

-- at first the rows of the subdevice are laid out
pub laid_first : (rows start new : List Row) → start ≡ [] → new ≡ start ++ map own_row rows → new ≡ laid 0 rows
laid_first rows start new none e = e ∙ ap (λ (xs : List Row). xs ++ map own_row rows) none ∙ sym (append-nil (map own_row rows))

-- the first value of a form about a channel is one of the subdevice's
channel_below : (head : Head) (kinds : List WordText) (vs : List Value) → is_of_channel kinds ≡ true → are_kept head kinds vs ≡ true →
    channel_of vs < head.channels
channel_below head [] vs c h = cc
channel_below head (Fixed key ∷ kinds) vs c h = channel_below head kinds vs c h
channel_below head (Channel ∷ kinds) (values_of.Number n ∷ vs) c h = ltb-true n head.channels (both (nat_lt n head.channels) (are_kept head kinds vs) h).0
channel_below head (Channel ∷ kinds) (values_of.Signed z ∷ vs) c h = cc
channel_below head (Channel ∷ kinds) (values_of.Name n ∷ vs) c h = cc
channel_below head (Channel ∷ kinds) (values_of.Divisors d ∷ vs) c h = cc
channel_below head (Channel ∷ kinds) [] c h = cc
channel_below head (kind ∷ kinds) vs c h = cc

-- a line's row is that of its form
pub record IsPlaced (t : TableText) (head : Head) (form : FormText) (vs : List Value) : Type 0 where
  pub below : place_of t.rows form vs < length (laid head.channels t.rows)
  pub row : row_at (place_of t.rows form vs) (laid head.channels t.rows) ≡ row_at form.row t.rows

pub placed : (t : TableText) (head : Head) (form : FormText) (vs : List Value) → is_listed t form ≡ true → are_kept head form.words vs ≡ true →
    IsPlaced t head form vs
placed t head form vs l h = by (row_at form.row t.rows).of_channel refl (both _ _ l).1
  where
    rows : List Row
    rows = t.rows

    below : form.row < length t.rows
    below =
        ltb-true _ _ (both (nat_lt form.row (length t.rows)) (is_headed form.words) (both _ (list_all is_proper form.words) (both (nat_lt form.row (length t.rows) && is_headed form.words && list_all is_proper form.words) (not (row_at form.row t.rows).of_channel || is_of_channel form.words) l).0).0).0

    size : length (laid head.channels t.rows) ≡ (head.channels + 1) * length t.rows
    size = length_laid head.channels t.rows

    more : (a b n : ℕ) → a < b → n < length t.rows → (a + 1) * length t.rows + n < (b + 1) * length t.rows
    more a b n p q = omega (arith, mul-add-lt (a + 1) (length t.rows) n (b + 1) (omega arith) q)

    by : (b : Bool) → (row_at form.row t.rows).of_channel ≡ b → (not b || is_of_channel form.words) ≡ true → IsPlaced t head form vs
    by true e c =
        let chan = channel_below head form.words vs c h in
        let place : place_of t.rows form vs ≡ (channel_of vs + 1) * length t.rows + form.row = ap (λ x. cond x ((channel_of vs + 1) * length t.rows + form.row) form.row) e in
        let less = more (channel_of vs) head.channels form.row chan below in
        record {
          below = omega (arith, size, place, less);
          row =
              ap (λ (m : ℕ). row_at m (laid head.channels t.rows)) place ∙ at_channel head.channels (channel_of vs) form.row t.rows chan below
              ∙ ap (λ x. cond x (row_at form.row t.rows) no_row) e;
        }
    by false e c =
        let place : place_of t.rows form vs ≡ form.row = ap (λ x. cond x ((channel_of vs + 1) * length t.rows + form.row) form.row) e in
        record {
          below = omega (arith, size, place, below);
          row =
              ap (λ (m : ℕ). row_at m (laid head.channels t.rows)) place ∙ at_own head.channels form.row t.rows below
              ∙ ap (λ x. cond x no_row (row_at form.row t.rows)) e;
        }

-- what words that are the same in each block say
constant : (head : Head) (kind : WordText) (v : Value) → is_proper kind ≡ true → is_constant kind ≡ true → is_kept some_head kind v ≡ true →
    is_kept head kind v ≡ true
constant head (Fixed key) v p c h = cc
constant head (Number l) (values_of.Number n) p c h = within head.version l n (both (nat_le l.most l.wide) (nat_lt l.wide 4294967296) p).0 h
constant head (Number l) (values_of.Signed z) p c h = cc
constant head (Number l) (values_of.Name n) p c h = cc
constant head (Number l) (values_of.Divisors d) p c h = cc
constant head Signed (values_of.Signed z) p c h = h
constant head Signed (values_of.Number n) p c h = cc
constant head Signed (values_of.Name n) p c h = cc
constant head Signed (values_of.Divisors d) p c h = cc
constant head (Sources sets) v p c h = cc
constant head Source (values_of.Number n) p c h = h
constant head Source (values_of.Signed z) p c h = cc
constant head Source (values_of.Name n) p c h = cc
constant head Source (values_of.Divisors d) p c h = cc
constant head (Name names) (values_of.Name n) p c h = h
constant head (Name names) (values_of.Number n) p c h = cc
constant head (Name names) (values_of.Signed z) p c h = cc
constant head (Name names) (values_of.Divisors d) p c h = cc
constant head Channel v p c h = cc
constant head Divisors (values_of.Divisors d) p c h = h
constant head Divisors (values_of.Number n) p c h = cc
constant head Divisors (values_of.Signed z) p c h = cc
constant head Divisors (values_of.Name n) p c h = cc

constants : (head : Head) (kinds : List WordText) (vs : List Value) → list_all is_proper kinds ≡ true → list_all is_constant kinds ≡ true →
    are_kept some_head kinds vs ≡ true → are_kept head kinds vs ≡ true
constants head [] [] p c h = refl
constants head [] (v ∷ vs) p c h = cc
constants head (Fixed key ∷ kinds) vs p c h =
    constants head kinds vs (both (is_proper (Fixed key)) (list_all is_proper kinds) p).1 c h
constants head (kind ∷ kinds) [] p c h = cc
constants head (kind ∷ kinds) (v ∷ vs) p c h =
    let q = both (is_proper kind) (list_all is_proper kinds) p in
    let a = both (is_constant kind) (list_all is_constant kinds) c in
    let b = both (is_kept some_head kind v) (are_kept some_head kinds vs) h in
    and_true _ _ (constant head kind v q.0 a.0 b.0) (constants head kinds vs q.1 a.1 b.1)

-- the forms of a table
pub listed_at : (t : TableText) (n : ℕ) (forms : List FormText) → list_all (is_listed t) forms ≡ true → n < length forms → is_listed t (form_at n forms) ≡ true
listed_at t n [] h below = absurd (omega arith)
listed_at t zero (form ∷ forms) h below = (both (is_listed t form) (list_all (is_listed t) forms) h).0
listed_at t (suc n) (form ∷ forms) h below = listed_at t n forms (both (is_listed t form) (list_all (is_listed t) forms) h).1 (omega arith)

-- the words of a form that is one of the table
listed_words : (t : TableText) (form : FormText) → is_listed t form ≡ true → list_all is_proper form.words ≡ true
listed_words t form h =
    let a = both (nat_lt form.row (length t.rows) && is_headed form.words && list_all is_proper form.words) (not (row_at form.row t.rows).of_channel || is_of_channel form.words) h in
    (both (nat_lt form.row (length t.rows) && is_headed form.words) (list_all is_proper form.words) a.0).1

-- what holds without a line of a row may stand in each block, and is one line only where there may be one
pub record Suits (t : TableText) (n : ℕ) (row : Row) : Type 0 where
  pub few : (version : ℕ) → length (default_of n row.absent) ≤ most_of version row
  pub good : (head : Head) → may_stand head row ≡ true → list_all (is_good t head) (default_of n row.absent) ≡ true

none_suits : (t : TableText) (n : ℕ) → Suits t n no_row
none_suits t n = record { few = λ version. omega arith; good = λ head h. refl }

nothing_suits : (t : TableText) (n : ℕ) (row : Row) (a : Absent) → is_nothing a ≡ true → default_of n a ≡ []
nothing_suits t n row absents.Nothing h = refl
nothing_suits t n row absents.Missing h = cc
nothing_suits t n row absents.MissingWithCommands h = cc
nothing_suits t n row (absents.Stands form) h = cc
nothing_suits t n row (absents.Says form k) h = cc

quiet_suits : (t : TableText) (n : ℕ) (row : Row) → is_nothing row.absent ≡ true → Suits t n row
quiet_suits t n row h =
    let none = nothing_suits t n row row.absent h in
    let few : length (default_of n row.absent) ≡ 0 = ap length none in
    record { few = λ version. omega (arith, few); good = λ head m. ap (list_all (is_good t head)) none }

good_form : (t : TableText) (head : Head) (n : ℕ) (row : Row) (form : ℕ) (vs : List Value) → row_at n t.rows ≡ row → row.of_channel ≡ false →
    may_stand head row ≡ true → list_all (is_listed t) t.forms ≡ true → has_form t n form vs ≡ true → is_good t head (record { row = n; form = form; values = vs }) ≡ true
good_form t head n row form vs at own m listed h =
    let f : FormText = form_at form t.forms in
    let h1 = both (nat_lt form (length t.forms) && f.row == n && list_all is_constant f.words) (keeps some_head f vs) h in
    let h2 = both (nat_lt form (length t.forms) && f.row == n) (list_all is_constant f.words) h1.0 in
    let h3 = both (nat_lt form (length t.forms)) (f.row == n) h2.0 in
    let k = both (are_kept some_head f.words vs) (keeps_rule f.rule vs) h1.1 in
    let e : f.row ≡ n = eqb-true f.row n h3.1 in
    let here : row_at f.row t.rows ≡ row = ap (λ (m : ℕ). row_at m t.rows) e ∙ at in
    let place : place_of t.rows f vs ≡ n = ap (λ x. cond x ((channel_of vs + 1) * length t.rows + f.row) f.row) (ap (λ (r : Row). r.of_channel) here ∙ own) ∙ e in
    and_true _ _ (and_true _ _ (and_true _ _ h3.0 (eq-eqb (place_of t.rows f vs) n place)) (ap (may_stand head) here ∙ m)) (and_true _ _ (constants head f.words vs (listed_words t f (listed_at t form t.forms listed (ltb-true form (length t.forms) h3.0))) h2.1 k.0) k.1)

good_default : (t : TableText) (head : Head) (n : ℕ) (row : Row) (a : Absent) → row_at n t.rows ≡ row → row.of_channel ≡ false → may_stand head row ≡ true →
    list_all (is_listed t) t.forms ≡ true → keeps_default t n a ≡ true → list_all (is_good t head) (default_of n a) ≡ true
good_default t head n row (absents.Stands form) at own m listed h = and_true _ true (good_form t head n row form [] at own m listed h) refl
good_default t head n row (absents.Says form k) at own m listed h = and_true _ true (good_form t head n row form (values_of.Number k ∷ []) at own m listed h) refl
good_default t head n row other at own m listed h = refl

default_few : (n : ℕ) (a : Absent) → length (default_of n a) ≤ 1
default_few n (absents.Stands form) = omega arith
default_few n (absents.Says form k) = omega arith
default_few n other = omega arith

own_suits : (t : TableText) (n : ℕ) (row : Row) → row_at n t.rows ≡ row → cond row.of_channel (is_nothing row.absent) (keeps_default t n row.absent) ≡ true →
    nat_le 1 row.most ≡ true → nat_le row.most row.wide ≡ true → list_all (is_listed t) t.forms ≡ true → Suits t n (own_row row)
own_suits t n row at h some more listed = by row.of_channel refl h
  where
    by : (b : Bool) → row.of_channel ≡ b → cond b (is_nothing row.absent) (keeps_default t n row.absent) ≡ true → Suits t n (cond b no_row row)
    by true e k = none_suits t n
    by false e k = record {
      few = λ version. least_most version (length (default_of n row.absent)) row.most row.wide
          (omega (arith, default_few n row.absent, leb-true 1 row.most some)) (leb-true row.most row.wide more);
      good = λ head m. good_default t head n row row.absent at e m listed k;
    }

-- the rows of a table
record IsRow (t : TableText) (n : ℕ) (row : Row) : Type 0 where
  pub absent : cond row.of_channel (is_nothing row.absent) (keeps_default t n row.absent) ≡ true
  pub some : nat_le 1 row.most ≡ true
  pub more : nat_le row.most row.wide ≡ true

is_row : (t : TableText) (n k : ℕ) (rows : List Row) → are_rows t n rows ≡ true → k < length rows → IsRow t (n + k) (row_at k rows)
is_row t n k [] h below = absurd (omega arith)
is_row t n zero (row ∷ rows) h below =
    let a = both (cond row.of_channel (is_nothing row.absent) (keeps_default t n row.absent) && nat_le 1 row.most && nat_le row.most row.wide) (are_rows t (n + 1) rows) h in
    let m = both (cond row.of_channel (is_nothing row.absent) (keeps_default t n row.absent) && nat_le 1 row.most) (nat_le row.most row.wide) a.0 in
    let b = both (cond row.of_channel (is_nothing row.absent) (keeps_default t n row.absent)) (nat_le 1 row.most) m.0 in
    record { absent = ap (λ (m : ℕ). cond row.of_channel (is_nothing row.absent) (keeps_default t m row.absent)) (omega arith) ∙ b.0; some = b.1; more = m.1 }
is_row t n (suc k) (row ∷ rows) h below =
    let a = both (cond row.of_channel (is_nothing row.absent) (keeps_default t n row.absent) && nat_le 1 row.most && nat_le row.most row.wide) (are_rows t (n + 1) rows) h in
    let later = is_row t (n + 1) k rows a.1 (omega arith) in
    let r : Row = row_at k rows in
    record { absent = ap (λ (m : ℕ). cond r.of_channel (is_nothing r.absent) (keeps_default t m r.absent)) (omega arith) ∙ later.absent; some = later.some; more = later.more }

-- nothing holds without a line of a channel
quiet : Row → Bool
quiet row = is_nothing row.absent

quiet_at : (n : ℕ) (rows : List Row) → list_all quiet rows ≡ true → quiet (row_at n rows) ≡ true
unfolding quiet
quiet_at n [] h = refl
quiet_at zero (row ∷ rows) h = (both (is_nothing row.absent) (list_all quiet rows) h).0
quiet_at (suc n) (row ∷ rows) h = quiet_at n rows (both (is_nothing row.absent) (list_all quiet rows) h).1

quiet_row : (t : TableText) (n : ℕ) (row : Row) → cond row.of_channel (is_nothing row.absent) (keeps_default t n row.absent) ≡ true →
    quiet (channel_row row) ≡ true
unfolding quiet
quiet_row t n row h = by row.of_channel h
  where
    by : (b : Bool) → cond b (is_nothing row.absent) (keeps_default t n row.absent) ≡ true → is_nothing (cond b row no_row).absent ≡ true
    by true k = k
    by false k = refl

quiet_rows : (t : TableText) (n : ℕ) (rows : List Row) → are_rows t n rows ≡ true → list_all quiet (map channel_row rows) ≡ true
quiet_rows t n [] h = refl
quiet_rows t n (row ∷ rows) h =
    let a = both (cond row.of_channel (is_nothing row.absent) (keeps_default t n row.absent) && nat_le 1 row.most && nat_le row.most row.wide) (are_rows t (n + 1) rows) h in
    let m = both (cond row.of_channel (is_nothing row.absent) (keeps_default t n row.absent) && nat_le 1 row.most) (nat_le row.most row.wide) a.0 in
    let b = both (cond row.of_channel (is_nothing row.absent) (keeps_default t n row.absent)) (nat_le 1 row.most) m.0 in
    and_true _ _ (quiet_row t n row b.0) (quiet_rows t (n + 1) rows a.1)

quiet_each : (first channels : ℕ) (rows : List Row) → list_all quiet (map channel_row rows) ≡ true → list_all quiet (each first channels rows) ≡ true
unfolding each
quiet_each first zero rows h = refl
quiet_each first (suc channels) rows h =
    list_all-append quiet (map channel_row rows) (flat_map (λ chan. map channel_row rows) (range_with_len (first + 1) channels))
    ∙ and_true _ _ h (quiet_each (first + 1) channels rows h)

quiet_there : (t : TableText) (channels k : ℕ) → are_rows t 0 t.rows ≡ true → is_nothing (row_at k (each 0 channels t.rows)).absent ≡ true
unfolding quiet
quiet_there t channels k rows = quiet_at k (each 0 channels t.rows) (quiet_each 0 channels t.rows (quiet_rows t 0 t.rows rows))

-- each row that is laid out for a block
pub laid_suits : (t : TableText) (channels n : ℕ) → is_table t ≡ true → Suits t n (row_at n (laid channels t.rows))
laid_suits t channels n check = by (nat_lt n (length t.rows)) refl
  where
    rows : are_rows t 0 t.rows ≡ true
    rows = (both (list_all (is_listed t) t.forms && all_apart t.forms) (are_rows t 0 t.rows) check).1

    forms : list_all (is_listed t) t.forms ≡ true
    forms = (both (list_all (is_listed t) t.forms) (all_apart t.forms) (both (list_all (is_listed t) t.forms && all_apart t.forms) (are_rows t 0 t.rows) check).0).0

    by : (b : Bool) → nat_lt n (length t.rows) ≡ b → Suits t n (row_at n (laid channels t.rows))
    by true e =
        let below : n < length t.rows = ltb-true n (length t.rows) e in
        let row : IsRow t n (row_at n t.rows) = subst (λ (m : ℕ). IsRow t m (row_at n t.rows)) (omega arith) (is_row t 0 n t.rows rows below) in
        subst (Suits t n) (sym (at_own channels n t.rows below)) (own_suits t n (row_at n t.rows) refl row.absent row.some row.more forms)
    by false e =
        let over : length t.rows ≤ n = ltb-false n (length t.rows) e in
        let place : n ≡ length t.rows + (n - length t.rows) = omega arith in
        let here : row_at n (laid channels t.rows) ≡ row_at (n - length t.rows) (each 0 channels t.rows) =
        ap (λ (m : ℕ). row_at m (laid channels t.rows)) place ∙ at_later channels (n - length t.rows) t.rows in
        quiet_suits t n (row_at n (laid channels t.rows)) (ap (λ (r : Row). is_nothing r.absent) here ∙ quiet_there t channels (n - length t.rows) rows)
