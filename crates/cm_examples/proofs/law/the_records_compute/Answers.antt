-- Made by tools/make_examples
use Rattle.cm_examples.proofs.Records as computed
use Rattle.cm_examples.proofs.law.the_records_compute.Goals as goal

pub returns : goal.returns
returns c = record {
  row_28 = computed.row_28;
  row_53 = computed.row_53;
  row_75_2 = computed.row_75_2;
  row_75_3 = computed.row_75_3;
  row_75_4 = computed.row_75_4;
  row_75_5 = computed.row_75_5;
  row_75_6 = computed.row_75_6;
  row_75_7 = computed.row_75_7;
  row_75_8 = computed.row_75_8;
  row_75_9 = computed.row_75_9;
  row_75_10 = computed.row_75_10;
  row_75_11 = computed.row_75_11;
  row_75_12 = computed.row_75_12;
  row_75_13 = computed.row_75_13;
  row_75_14 = computed.row_75_14;
  row_75_15 = computed.row_75_15;
  row_75_16 = computed.row_75_16;
  row_75_17 = computed.row_75_17;
  row_75_18 = computed.row_75_18;
  row_95_2 = computed.row_95_2;
  row_95_14 = computed.row_95_14;
  row_95_15 = computed.row_95_15;
  row_112_1 = computed.row_112_1;
  row_112_2 = computed.row_112_2;
  row_112_4 = computed.row_112_4;
}
