-- Made by tools/make_examples
use Rattle.cm_examples.proofs.Buffers as computed
use Rattle.cm_examples.proofs.law.the_buffers_compute.Goals as goal

pub returns : goal.returns
returns c = record {
  row_117_4 = computed.row_117_4;
}
