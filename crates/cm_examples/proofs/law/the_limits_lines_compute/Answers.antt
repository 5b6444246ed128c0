-- Made by tools/make_examples
use Rattle.cm_examples.proofs.LimitsLines as computed
use Rattle.cm_examples.proofs.law.the_limits_lines_compute.Goals as goal

pub returns : goal.returns
returns c = record {
  row_44_1 = computed.row_44_1;
  row_44_2 = computed.row_44_2;
  row_44_3 = computed.row_44_3;
  row_44_4 = computed.row_44_4;
  row_44_5 = computed.row_44_5;
  row_44_6 = computed.row_44_6;
  row_52_1 = computed.row_52_1;
  row_52_2 = computed.row_52_2;
  row_52_3 = computed.row_52_3;
  row_52_4 = computed.row_52_4;
  row_58_1 = computed.row_58_1;
  row_58_2 = computed.row_58_2;
  row_58_3 = computed.row_58_3;
  row_58_4 = computed.row_58_4;
  row_58_5 = computed.row_58_5;
  row_58_6 = computed.row_58_6;
  row_58_7 = computed.row_58_7;
  row_58_8 = computed.row_58_8;
  row_58_9 = computed.row_58_9;
  row_69_1 = computed.row_69_1;
  row_69_2 = computed.row_69_2;
  row_69_3 = computed.row_69_3;
  row_74_1 = computed.row_74_1;
  row_74_2 = computed.row_74_2;
  row_74_3 = computed.row_74_3;
  row_74_7 = computed.row_74_7;
  row_84_1 = computed.row_84_1;
  row_89_1 = computed.row_89_1;
  row_89_2 = computed.row_89_2;
  row_95_1 = computed.row_95_1;
  row_95_4 = computed.row_95_4;
  row_95_5 = computed.row_95_5;
  row_102_1 = computed.row_102_1;
  row_106_1 = computed.row_106_1;
  row_106_2 = computed.row_106_2;
  row_106_4 = computed.row_106_4;
}
