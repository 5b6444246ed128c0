-- Made by tools/make_examples
use Rattle.cm_examples.proofs.Threads as computed
use Rattle.cm_examples.proofs.law.the_threads_compute.Goals as goal

pub returns : goal.returns
returns c = record {
  row_56 = computed.row_56;
  row_68 = computed.row_68;
  row_77 = computed.row_77;
  row_84 = computed.row_84;
  row_92 = computed.row_92;
  row_97 = computed.row_97;
  row_100 = computed.row_100;
  row_112 = computed.row_112;
  row_121 = computed.row_121;
  row_124 = computed.row_124;
  row_129 = computed.row_129;
  row_134 = computed.row_134;
  row_141 = computed.row_141;
  row_146 = computed.row_146;
  row_154 = computed.row_154;
  row_162 = computed.row_162;
  row_206 = computed.row_206;
  row_219 = computed.row_219;
  row_226 = computed.row_226;
  row_231 = computed.row_231;
  row_235 = computed.row_235;
  row_240 = computed.row_240;
  row_247 = computed.row_247;
  row_254 = computed.row_254;
}
