use Rattle.std.proofs.Common.{◌<◌, length, set, get_or, ap, ◌∙◌, rules}
use Rattle.std.proofs.lemmas.List.Edits.{map_over_more}
use Rattle.cm_sub.specs.Claims.{claim_without, nobody}
use Rattle.cm_sub.specs.declared.claim.Claim.{Claim}
use Rattle.cm_sub.proofs.files.give_up.Goals as goal

pub loop-i-preserved : goal.loop-i-preserved
loop-i-preserved c =
    let i = c.loop-i.i in
    let within : i < length c.args.claims.now = search rules in
    let x : Claim = get_or c.loop-i.claims i nobody in
    record {
      so_far = ap (set c.loop-i.claims i) c.without.ensures
          ∙ map_over_more (claim_without c.args.f) c.args.claims.now c.loop-i.claims i x within c.loop-i.invariant.so_far (search rules);
    }
