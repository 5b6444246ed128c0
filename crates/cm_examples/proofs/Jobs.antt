-- Made by tools/make_examples: the examples of `tests/jobs.rows`, computed
use Rattle.std.proofs.Common.{refl}
use Rattle.cm_examples.specs.Jobs as said
use Rattle.cm_examples.proofs.Computes.{computes}

pub row_125 : said.Row_125
unfolding computes
row_125 = refl

pub row_142 : said.Row_142
unfolding computes
row_142 = refl

pub row_162 : said.Row_162
unfolding computes
row_162 = refl

pub row_173 : said.Row_173
unfolding computes
row_173 = refl

pub row_194 : said.Row_194
unfolding computes
row_194 = refl

pub row_203 : said.Row_203
unfolding computes
row_203 = refl

pub row_216 : said.Row_216
unfolding computes
row_216 = refl

pub row_225 : said.Row_225
unfolding computes
row_225 = refl

pub row_237 : said.Row_237
unfolding computes
row_237 = refl

pub row_248 : said.Row_248
unfolding computes
row_248 = refl

pub row_258 : said.Row_258
unfolding computes
row_258 = refl

pub row_261 : said.Row_261
unfolding computes
row_261 = refl

pub row_265 : said.Row_265
unfolding computes
row_265 = refl

pub row_270 : said.Row_270
unfolding computes
row_270 = refl

pub row_276 : said.Row_276
unfolding computes
row_276 = refl

pub row_283 : said.Row_283
unfolding computes
row_283 = refl

pub row_291 : said.Row_291
unfolding computes
row_291 = refl

pub row_299 : said.Row_299
unfolding computes
row_299 = refl

pub row_307 : said.Row_307
unfolding computes
row_307 = refl

pub row_315 : said.Row_315
unfolding computes
row_315 = refl

pub row_322 : said.Row_322
unfolding computes
row_322 = refl

pub row_329 : said.Row_329
unfolding computes
row_329 = refl

pub row_334 : said.Row_334
unfolding computes
row_334 = refl

pub row_343 : said.Row_343
unfolding computes
row_343 = refl

pub row_362 : said.Row_362
unfolding computes
row_362 = refl

pub row_373 : said.Row_373
unfolding computes
row_373 = refl

pub row_389 : said.Row_389
unfolding computes
row_389 = refl

pub row_398 : said.Row_398
unfolding computes
row_398 = refl

pub row_407 : said.Row_407
unfolding computes
row_407 = refl

pub row_417 : said.Row_417
unfolding computes
row_417 = refl

pub row_425 : said.Row_425
unfolding computes
row_425 = refl

pub row_438 : said.Row_438
unfolding computes
row_438 = refl

pub row_448 : said.Row_448
unfolding computes
row_448 = refl

pub row_466 : said.Row_466
unfolding computes
row_466 = refl

pub row_483 : said.Row_483
unfolding computes
row_483 = refl

pub row_490 : said.Row_490
unfolding computes
row_490 = refl

pub row_509 : said.Row_509
unfolding computes
row_509 = refl

pub row_513 : said.Row_513
unfolding computes
row_513 = refl

pub row_518 : said.Row_518
unfolding computes
row_518 = refl

pub row_524 : said.Row_524
unfolding computes
row_524 = refl

pub row_527 : said.Row_527
unfolding computes
row_527 = refl

pub row_543 : said.Row_543
unfolding computes
row_543 = refl

pub row_559 : said.Row_559
unfolding computes
row_559 = refl

pub row_575 : said.Row_575
unfolding computes
row_575 = refl

pub row_584 : said.Row_584
unfolding computes
row_584 = refl

pub row_595 : said.Row_595
unfolding computes
row_595 = refl

pub row_636 : said.Row_636
unfolding computes
row_636 = refl

pub row_645 : said.Row_645
unfolding computes
row_645 = refl

pub row_658 : said.Row_658
unfolding computes
row_658 = refl
