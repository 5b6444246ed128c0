-- Rows and forms by their places.
use Rattle.std.proofs.Common.{◌≡◌, ℕ, zero, suc, ◌+◌, ◌*◌, ◌<◌, ◌≤◌, Bool, true, false, cond, List, [], ◌∷◌, length, map, get_or, refl, sym, ap, ◌∙◌, arith, Bor}
use Rattle.cm_board_text.specs.Printed.{name_at}
use Rattle.cm_board.specs.Table.{FormText, channel_of, form_at, form_text, no_form, no_row, place_of, row_at}
use Rattle.cm_board.specs.declared.table.Form.{Form}
use Rattle.cm_board.specs.declared.table.Row.{Row}
use Rattle.cm_board.specs.declared.table.Value.{Value}

pub row_is : (rows : List Row) (n : ℕ) (d : Row) → n < length rows → row_at n rows ≡ get_or rows n d
row_is [] n d h = absurd (omega arith)
row_is (row ∷ rows) zero d h = refl
row_is (row ∷ rows) (suc n) d h = row_is rows n d (omega arith)

pub no_row_is : (rows : List Row) (n : ℕ) → length rows ≤ n → row_at n rows ≡ no_row
no_row_is [] n h = refl
no_row_is (row ∷ rows) zero h = absurd (omega arith)
no_row_is (row ∷ rows) (suc n) h = no_row_is rows n (omega arith)

pub name_is : (names : List (Bor (List ℕ))) (n : ℕ) (d : Bor (List ℕ)) → n < length names → name_at n (map (λ name. name.now) names) ≡ (get_or names n d).now
name_is [] n d h = absurd (omega arith)
name_is (name ∷ names) zero d h = refl
name_is (name ∷ names) (suc n) d h = name_is names n d (omega arith)

pub no_name_is : (names : List (Bor (List ℕ))) (n : ℕ) → length names ≤ n → name_at n (map (λ name. name.now) names) ≡ []
no_name_is [] n h = refl
no_name_is (name ∷ names) zero h = absurd (omega arith)
no_name_is (name ∷ names) (suc n) h = no_name_is names n (omega arith)

pub form_is : (forms : List Form) (n : ℕ) (d : Form) → n < length forms → form_at n (map form_text forms) ≡ form_text (get_or forms n d)
form_is [] n d h = absurd (omega arith)
form_is (form ∷ forms) zero d h = refl
form_is (form ∷ forms) (suc n) d h = form_is forms n d (omega arith)

pub no_form_is : (forms : List Form) (n : ℕ) → length forms ≤ n → form_at n (map form_text forms) ≡ no_form
no_form_is [] n h = refl
no_form_is (form ∷ forms) zero h = absurd (omega arith)
no_form_is (form ∷ forms) (suc n) h = no_form_is forms n (omega arith)

-- the place of a line's row, by whether it is about a channel
pub channel_place : (rows : List Row) (form : FormText) (values : List Value) (chan : ℕ) → (row_at form.row rows).of_channel ≡ true →
    chan ≡ channel_of values → (chan + 1) * length rows + form.row ≡ place_of rows form values
channel_place rows form values chan h e =
    ap (λ (n : ℕ). (n + 1) * length rows + form.row) e ∙ sym (ap (λ b. cond b ((channel_of values + 1) * length rows + form.row) form.row) h)

pub own_place : (rows : List Row) (form : FormText) (values : List Value) → (row_at form.row rows).of_channel ≡ false → form.row ≡ place_of rows form values
own_place rows form values h = sym (ap (λ b. cond b ((channel_of values + 1) * length rows + form.row) form.row) h)

pub of_channel_is : (rows : List Row) (n : ℕ) (d : Row) (b : Bool) → n < length rows → (get_or rows n d).of_channel ≡ b → (row_at n rows).of_channel ≡ b
of_channel_is rows n d b h e = ap (λ (r : Row). r.of_channel) (row_is rows n d h) ∙ e

pub none_of_channel : (rows : List Row) (n : ℕ) → length rows ≤ n → (row_at n rows).of_channel ≡ false
none_of_channel rows n h = ap (λ (r : Row). r.of_channel) (no_row_is rows n h)
