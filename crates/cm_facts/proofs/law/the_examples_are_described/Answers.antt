use Rattle.cm_facts.proofs.ExamplesHold as computed
use Rattle.cm_facts.proofs.law.the_examples_are_described.Goals as goal

pub returns : goal.returns
returns c = record {
  demo = computed.demo;
  bench = computed.bench;
  wider = computed.wider;
}
