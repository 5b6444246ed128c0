-- Made by tools/make_examples
use Rattle.cm_examples.proofs.Commands as computed
use Rattle.cm_examples.proofs.law.the_commands_compute.Goals as goal

pub returns : goal.returns
returns c = record {
  row_26_2 = computed.row_26_2;
  row_26_3 = computed.row_26_3;
  row_26_4 = computed.row_26_4;
  row_26_5 = computed.row_26_5;
  row_26_6 = computed.row_26_6;
  row_26_7 = computed.row_26_7;
  row_26_8 = computed.row_26_8;
  row_26_9 = computed.row_26_9;
  row_26_10 = computed.row_26_10;
  row_26_11 = computed.row_26_11;
  row_26_12 = computed.row_26_12;
  row_26_13 = computed.row_26_13;
  row_26_14 = computed.row_26_14;
  row_26_15 = computed.row_26_15;
  row_26_16 = computed.row_26_16;
  row_26_17 = computed.row_26_17;
  row_26_18 = computed.row_26_18;
  row_26_19 = computed.row_26_19;
  row_26_20 = computed.row_26_20;
  row_71_2 = computed.row_71_2;
  row_71_3 = computed.row_71_3;
  row_71_4 = computed.row_71_4;
}
