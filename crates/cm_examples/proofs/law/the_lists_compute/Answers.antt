-- Made by tools/make_examples
use Rattle.cm_examples.proofs.Lists as computed
use Rattle.cm_examples.proofs.law.the_lists_compute.Goals as goal

pub returns : goal.returns
returns c = record {
  row_27_2 = computed.row_27_2;
  row_31_2 = computed.row_31_2;
  row_31_3 = computed.row_31_3;
  row_31_4 = computed.row_31_4;
  row_31_5 = computed.row_31_5;
  row_31_6 = computed.row_31_6;
  row_39_2 = computed.row_39_2;
  row_39_3 = computed.row_39_3;
  row_39_4 = computed.row_39_4;
  row_39_5 = computed.row_39_5;
  row_46_2 = computed.row_46_2;
  row_46_3 = computed.row_46_3;
  row_46_4 = computed.row_46_4;
  row_46_5 = computed.row_46_5;
  row_46_6 = computed.row_46_6;
  row_54_2 = computed.row_54_2;
  row_54_3 = computed.row_54_3;
  row_54_4 = computed.row_54_4;
  row_54_5 = computed.row_54_5;
  row_61_2 = computed.row_61_2;
  row_61_3 = computed.row_61_3;
  row_61_4 = computed.row_61_4;
  row_61_5 = computed.row_61_5;
  row_68_2 = computed.row_68_2;
  row_68_3 = computed.row_68_3;
  row_68_4 = computed.row_68_4;
  row_68_5 = computed.row_68_5;
  row_68_6 = computed.row_68_6;
  row_68_7 = computed.row_68_7;
  row_68_8 = computed.row_68_8;
  row_68_9 = computed.row_68_9;
  row_68_10 = computed.row_68_10;
  row_68_11 = computed.row_68_11;
  row_68_12 = computed.row_68_12;
  row_68_13 = computed.row_68_13;
  row_68_14 = computed.row_68_14;
  row_68_15 = computed.row_68_15;
  row_68_16 = computed.row_68_16;
  row_68_17 = computed.row_68_17;
  row_87_2 = computed.row_87_2;
  row_87_3 = computed.row_87_3;
  row_92_2 = computed.row_92_2;
  row_92_3 = computed.row_92_3;
  row_97_2 = computed.row_97_2;
  row_97_3 = computed.row_97_3;
  row_97_4 = computed.row_97_4;
  row_97_5 = computed.row_97_5;
  row_97_6 = computed.row_97_6;
}
