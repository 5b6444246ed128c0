use Rattle.std.proofs.Common.{◌++◌, List, ℕ, codes, ap, ◌∙◌}
use Rattle.std.specs.Fmt.{decimal}
use Rattle.cm_cmd.specs.CommandText.{command_text}
use Rattle.cm_test.specs.Testing.{test_text}
use Rattle.cm_test.proofs.Tested.{five-parts}
use Rattle.cm_test.proofs.testing.put_step.Goals as goal

pub returns : goal.returns
returns c =
    let old = c.args.text.now.items in
    let step : List ℕ = decimal c.from.result in
    let cmd : List ℕ = command_text c.args.cmd.now in
    c.in_ok-extend_from_slice-3.ensures.items
    ∙ ap (λ (t : List ℕ). t ++ codes "\n") (c.in_ok-put_cmd.ensures
    ∙ ap (λ (t : List ℕ). t ++ cmd) (c.in_ok-extend_from_slice-2.ensures.items
    ∙ ap (λ (t : List ℕ). t ++ codes " ") (c.in_ok-put_u64.ensures.ok
    ∙ ap (λ (t : List ℕ). t ++ step) c.in_ok-extend_from_slice.ensures.items)))
    ∙ five-parts old (codes "step ") step (codes " ") cmd (codes "\n")
    ∙ ap (λ (n : ℕ). old ++ test_text (n, c.args.cmd.now)) c.from.ensures
