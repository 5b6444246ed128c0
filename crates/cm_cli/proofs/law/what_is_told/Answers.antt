use Rattle.cm_cli.proofs.Headlines.{told_law}
use Rattle.cm_cli.proofs.law.what_is_told.Goals as goal

pub returns : goal.returns
returns c = told_law c.a_run_streams_prefixes.ensures c.a_watch_streams_prefixes.ensures c.a_loop_puts_its_filter.ensures c.the_headline.ensures
