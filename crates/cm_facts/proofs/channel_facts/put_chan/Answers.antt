use Rattle.std.proofs.Common.{ℕ, List, [], ◌∷◌}
use Rattle.std.specs.Prelude.{codes}
use Rattle.cm_facts.specs.ChannelFacts.{chan_facts, range_facts}
use Rattle.cm_facts.specs.FactLine.{fact_line}
use Rattle.cm_facts.specs.Names.{munge_words}
use Rattle.cm_facts.proofs.Pieces.{if_ok, three_more}
use Rattle.cm_facts.proofs.channel_facts.put_chan.Goals as goal

pub returns : goal.returns
unfolding chan_facts
returns c =
    let place : List ℕ = c.args.index ∷ c.args.chan ∷ [] in
    if_ok c.put_ranges.result c.put_ranges.ensures (λ e.
    three_more c.args.text.now.items
    (fact_line (codes "chan_maxdata") (c.args.index ∷ c.args.chan ∷ c.args.maxdata ∷ []) [])
    (fact_line (codes "chan_munge") place (munge_words c.args.munge))
    (range_facts (codes "chan_range") place 0 c.args.ranges.now)
    c.put_fact.new.text.items c.put_munge.new.text.items c.put_ranges.new.text.items
    c.in_ok-put_fact.ensures c.in_ok-put_munge.ensures e)
