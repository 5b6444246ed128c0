use Rattle.cm_serve.proofs.Soonest.{await_law}
use Rattle.cm_serve.proofs.law.an_await_ends_as_soon_as_it_can.Goals as goal

pub returns : goal.returns
returns c = await_law
