-- That the munged words of an input's expansion can be reported.
use Rattle.std.proofs.Common.{◌≡◌, ℕ, zero, suc, ◌+◌, ◌%◌, ◌<◌, ◌≤◌, Bool, true, false, List, [], ◌∷◌, length, get_or, sym, ap, ◌∙◌, subst, arith, mod-lt}
use Rattle.std.specs.Prelude.{if◌then◌else◌, map, slice_index}
use Rattle.std.proofs.lemmas.Bool.{cond-false}
use Rattle.cm_cmd.specs.Entry.{chan}
use Rattle.cm_board.specs.Board.{is_output, maxdata_of, munge_of}
use Rattle.cm_board.specs.Munge.{munged}
use Rattle.cm_sample.specs.Rule.{map_from}
use Rattle.cm_expand.specs.Fit.{IsExpansion}
use Rattle.cm_expand.specs.Items.{conv_at, input_at, items_of, raw_of, samples_of}
use Rattle.cm_expand.specs.Plan.{PlanText, times_of}
use Rattle.cm_expand.specs.Rule.{is_raw, munged_at}
use Rattle.cm_expand.specs.declared.conv.Conv.{Conv}
use Rattle.cm_expand.proofs.Counted.{items_counted}
use Rattle.cm_text.specs.Format.{IsSample, format_of}

-- a munged word is a code where it is munged as an input's
code_by : (raw out : Bool) (word other code most : ℕ) → raw ≡ false → out ≡ false → code ≤ most → (if raw then word else (if out then other else code)) ≤ most
code_by true out word other code most r o h = cc
code_by false true word other code most r o h = cc
code_by false false word other code most r o h = h

-- the munged word of each place of an input can be reported
one_sample : (p : PlanText) (place time : ℕ) → IsExpansion p → 1 ≤ length p.cmd.list → is_output p.sub.kind ≡ false → IsSample (format_of p) place (munged_at p.sub p.cmd place (conv_at p place time).raw)
one_sample p place time is some input = λ raw.
    let index : place % length p.cmd.list < length p.cmd.list = mod-lt place (omega arith) in
    let entry = slice_index p.cmd.list (place % length p.cmd.list) in
    let code = is.codes (place % length p.cmd.list) time index in
    let word : raw_of p entry time ≡ input_at p entry time = cond-false (is_output p.sub.kind) 0 (input_at p entry time) input in
    let by_chan = munged (munge_of p.sub (chan entry)) (maxdata_of p.sub (chan entry)) in
    let same : by_chan (raw_of p entry time) ≤ maxdata_of p.sub (chan entry) = subst (λ n. n ≤ maxdata_of p.sub (chan entry)) (sym (ap by_chan word ∙ code.back)) code.within in
    code_by (is_raw p.cmd.flags) (is_output p.sub.kind) _ _ _ _ raw input same

samples_from : (p : PlanText) (place : ℕ) (ts : List ℕ) → IsExpansion p → 1 ≤ length p.cmd.list → is_output p.sub.kind ≡ false → (i : ℕ) → i < length ts →
    IsSample (format_of p) (place + i) (get_or (map_from (munged_at p.sub p.cmd) place (map (λ (conv : Conv). conv.raw) (map_from (conv_at p) place ts))) i 0)
samples_from p place [] is some input i below = absurd (omega arith)
samples_from p place (t ∷ ts) is some input zero below =
    let here : place ≡ place + 0 = omega arith in
    subst (λ n. IsSample (format_of p) n (munged_at p.sub p.cmd place (conv_at p place t).raw)) here (one_sample p place t is some input)
samples_from p place (t ∷ ts) is some input (suc i) below =
    let here : suc place + i ≡ place + suc i = omega arith in
    subst (λ n. IsSample (format_of p) n (get_or (map_from (munged_at p.sub p.cmd) (suc place) (map (λ (conv : Conv). conv.raw) (map_from (conv_at p) (suc place) ts))) i 0)) here
    (samples_from p (suc place) ts is some input i (omega arith))

-- each munged sample of an input's command can be reported
pub sample_from : (p : PlanText) → IsExpansion p → 1 ≤ length p.cmd.list → is_output p.sub.kind ≡ false → (i : ℕ) → i < length (items_of p) →
    IsSample (format_of p) i (get_or (map_from (munged_at p.sub p.cmd) 0 (samples_of p)) i 0)
sample_from p is some input i below =
    let here : 0 + i ≡ i = omega arith in
    subst (λ n. IsSample (format_of p) n (get_or (map_from (munged_at p.sub p.cmd) 0 (samples_of p)) i 0)) here
    (samples_from p 0 (times_of p) is some input i (omega (arith, items_counted p)))
