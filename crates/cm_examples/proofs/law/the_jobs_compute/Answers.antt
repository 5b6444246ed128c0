-- Made by tools/make_examples
use Rattle.cm_examples.proofs.Jobs as computed
use Rattle.cm_examples.proofs.law.the_jobs_compute.Goals as goal

pub returns : goal.returns
returns c = record {
  row_125 = computed.row_125;
  row_142 = computed.row_142;
  row_162 = computed.row_162;
  row_173 = computed.row_173;
  row_194 = computed.row_194;
  row_203 = computed.row_203;
  row_216 = computed.row_216;
  row_225 = computed.row_225;
  row_237 = computed.row_237;
  row_248 = computed.row_248;
  row_258 = computed.row_258;
  row_261 = computed.row_261;
  row_265 = computed.row_265;
  row_270 = computed.row_270;
  row_276 = computed.row_276;
  row_283 = computed.row_283;
  row_291 = computed.row_291;
  row_299 = computed.row_299;
  row_307 = computed.row_307;
  row_315 = computed.row_315;
  row_322 = computed.row_322;
  row_329 = computed.row_329;
  row_334 = computed.row_334;
  row_343 = computed.row_343;
  row_362 = computed.row_362;
  row_373 = computed.row_373;
  row_389 = computed.row_389;
  row_398 = computed.row_398;
  row_407 = computed.row_407;
  row_417 = computed.row_417;
  row_425 = computed.row_425;
  row_438 = computed.row_438;
  row_448 = computed.row_448;
  row_466 = computed.row_466;
  row_483 = computed.row_483;
  row_490 = computed.row_490;
  row_509 = computed.row_509;
  row_513 = computed.row_513;
  row_518 = computed.row_518;
  row_524 = computed.row_524;
  row_527 = computed.row_527;
  row_543 = computed.row_543;
  row_559 = computed.row_559;
  row_575 = computed.row_575;
  row_584 = computed.row_584;
  row_595 = computed.row_595;
  row_636 = computed.row_636;
  row_645 = computed.row_645;
  row_658 = computed.row_658;
}
