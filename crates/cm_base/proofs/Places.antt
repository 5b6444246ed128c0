-- The lines of a text by their places.
use Rattle.std.proofs.Common.{◌≡◌, ℕ, ◌-◌, ◌<◌, ◌+◌, suc, Bool, true, List, [], ◌∷◌, ◌++◌, length, map, drop, take, get_or, ap, sym, ◌∙◌, arith, add-one, drop-cons, length-drop}
use Rattle.std.specs.Prelude.{if◌then◌else◌}
use Rattle.std.proofs.Math.Seq.{take-append-add}
use Rattle.std.proofs.lemmas.List.{drop-map, length-map, map-append, take_all}
use Rattle.cm_base.specs.LineView.{line_view}
use Rattle.cm_base.specs.Lines.{LineText}
use Rattle.cm_base.specs.declared.lines.Line.{Line}

-- the lines from a place on, as lists and as slices
pub views_from : (lines : List Line) (at : ℕ) → map line_view (take (length lines - at) (drop at lines)) ≡ drop at (map line_view lines)
views_from lines at = ap (map line_view) (take_all (length lines - at) (drop at lines) (omega (arith, length-drop at lines))) ∙ sym (drop-map line_view at lines)

-- what is left is the next line and the lines after it
pub next_line : (lines : List Line) (i : ℕ) (line : Line) → i < length lines → line ≡ get_or lines i line → map line_view (drop i lines) ≡ line_view line ∷ map line_view (drop (i + 1) lines)
next_line lines i line h e =
    ap (map line_view) (drop-cons lines i line h)
    ∙ ap (λ (x : Line). line_view x ∷ map line_view (drop (suc i) lines)) (sym e)
    ∙ ap (λ (n : ℕ). line_view line ∷ map line_view (drop n lines)) (sym (add-one i))

-- the lines read and the next one, where there is one, are the first of all
pub first_lines : (lines : List Line) (rest all : List LineText) → map line_view lines ++ rest ≡ all → take (length lines + 1) all ≡ map line_view lines ++ take 1 rest
first_lines lines rest all e =
    ap (take (length lines + 1)) (sym e)
    ∙ ap (λ (n : ℕ). take (n + 1) (map line_view lines ++ rest)) (sym (length-map lines line_view))
    ∙ take-append-add (map line_view lines) rest 1

-- the last one is read
pub last_read : (lines reported : List Line) (line : Line) (old new all : List LineText) → reported ≡ lines ++ line ∷ [] → old ≡ line_view line ∷ new → map line_view lines ++ old ≡ all →
    map line_view reported ≡ take (length lines + 1) all
last_read lines reported line old new all t e before =
    ap (map line_view) t
    ∙ map-append line_view lines (line ∷ [])
    ∙ sym (first_lines lines old all before ∙ ap (λ (ls : List LineText). map line_view lines ++ take 1 ls) e)

-- the next of the lines that are left
abbrev pub taken : Bool → LineText → List LineText → List LineText
taken more line rest = if more then line ∷ rest else []

pub line_taken : (more : Bool) (line : LineText) (now rest : List LineText) → now ≡ taken more line rest → more ≡ true → now ≡ line ∷ rest
line_taken more line now rest e h = e ∙ ap (λ (b : Bool). taken b line rest) h
