-- Made by tools/make_examples
use Rattle.cm_examples.proofs.Sessions as computed
use Rattle.cm_examples.proofs.law.the_sessions_compute.Goals as goal

pub returns : goal.returns
returns c = record {
  row_67 = computed.row_67;
  row_82 = computed.row_82;
  row_95 = computed.row_95;
  row_114 = computed.row_114;
  row_133 = computed.row_133;
  row_136 = computed.row_136;
  row_139 = computed.row_139;
  row_150 = computed.row_150;
  row_160 = computed.row_160;
  row_169 = computed.row_169;
  row_188 = computed.row_188;
  row_211 = computed.row_211;
  row_225 = computed.row_225;
  row_245 = computed.row_245;
  row_252 = computed.row_252;
  row_271 = computed.row_271;
  row_294 = computed.row_294;
  row_300 = computed.row_300;
  row_309 = computed.row_309;
  row_316 = computed.row_316;
  row_361 = computed.row_361;
  row_378 = computed.row_378;
  row_394 = computed.row_394;
  row_421 = computed.row_421;
  row_452 = computed.row_452;
  row_493 = computed.row_493;
  row_553 = computed.row_553;
  row_588 = computed.row_588;
  row_661 = computed.row_661;
  row_688 = computed.row_688;
  row_711 = computed.row_711;
  row_734 = computed.row_734;
  row_784 = computed.row_784;
}
