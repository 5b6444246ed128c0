-- Made by tools/make_examples: the examples of `tests/sessions.rows`, computed
use Rattle.std.proofs.Common.{refl}
use Rattle.cm_examples.specs.Sessions as said
use Rattle.cm_examples.proofs.Computes.{computes}

pub row_67 : said.Row_67
unfolding computes
row_67 = refl

pub row_82 : said.Row_82
unfolding computes
row_82 = refl

pub row_95 : said.Row_95
unfolding computes
row_95 = refl

pub row_114 : said.Row_114
unfolding computes
row_114 = refl

pub row_133 : said.Row_133
unfolding computes
row_133 = refl

pub row_136 : said.Row_136
unfolding computes
row_136 = refl

pub row_139 : said.Row_139
unfolding computes
row_139 = refl

pub row_150 : said.Row_150
unfolding computes
row_150 = refl

pub row_160 : said.Row_160
unfolding computes
row_160 = refl

pub row_169 : said.Row_169
unfolding computes
row_169 = refl

pub row_188 : said.Row_188
unfolding computes
row_188 = refl

pub row_211 : said.Row_211
unfolding computes
row_211 = refl

pub row_225 : said.Row_225
unfolding computes
row_225 = refl

pub row_245 : said.Row_245
unfolding computes
row_245 = refl

pub row_252 : said.Row_252
unfolding computes
row_252 = refl

pub row_271 : said.Row_271
unfolding computes
row_271 = refl

pub row_294 : said.Row_294
unfolding computes
row_294 = refl

pub row_300 : said.Row_300
unfolding computes
row_300 = refl

pub row_309 : said.Row_309
unfolding computes
row_309 = refl

pub row_316 : said.Row_316
unfolding computes
row_316 = refl

pub row_361 : said.Row_361
unfolding computes
row_361 = refl

pub row_378 : said.Row_378
unfolding computes
row_378 = refl

pub row_394 : said.Row_394
unfolding computes
row_394 = refl

pub row_421 : said.Row_421
unfolding computes
row_421 = refl

pub row_452 : said.Row_452
unfolding computes
row_452 = refl

pub row_493 : said.Row_493
unfolding computes
row_493 = refl

pub row_553 : said.Row_553
unfolding computes
row_553 = refl

pub row_588 : said.Row_588
unfolding computes
row_588 = refl

pub row_661 : said.Row_661
unfolding computes
row_661 = refl

pub row_688 : said.Row_688
unfolding computes
row_688 = refl

pub row_711 : said.Row_711
unfolding computes
row_711 = refl

pub row_734 : said.Row_734
unfolding computes
row_734 = refl

pub row_784 : said.Row_784
unfolding computes
row_784 = refl
