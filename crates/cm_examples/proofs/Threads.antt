-- Made by tools/make_examples: the examples of `tests/threads.rows`, computed
use Rattle.std.proofs.Common.{refl}
use Rattle.cm_examples.specs.Threads as said
use Rattle.cm_examples.proofs.Computes.{computes}

pub row_56 : said.Row_56
unfolding computes
row_56 = refl

pub row_68 : said.Row_68
unfolding computes
row_68 = refl

pub row_77 : said.Row_77
unfolding computes
row_77 = refl

pub row_84 : said.Row_84
unfolding computes
row_84 = refl

pub row_92 : said.Row_92
unfolding computes
row_92 = refl

pub row_97 : said.Row_97
unfolding computes
row_97 = refl

pub row_100 : said.Row_100
unfolding computes
row_100 = refl

pub row_112 : said.Row_112
unfolding computes
row_112 = refl

pub row_121 : said.Row_121
unfolding computes
row_121 = refl

pub row_124 : said.Row_124
unfolding computes
row_124 = refl

pub row_129 : said.Row_129
unfolding computes
row_129 = refl

pub row_134 : said.Row_134
unfolding computes
row_134 = refl

pub row_141 : said.Row_141
unfolding computes
row_141 = refl

pub row_146 : said.Row_146
unfolding computes
row_146 = refl

pub row_154 : said.Row_154
unfolding computes
row_154 = refl

pub row_162 : said.Row_162
unfolding computes
row_162 = refl

pub row_206 : said.Row_206
unfolding computes
row_206 = refl

pub row_219 : said.Row_219
unfolding computes
row_219 = refl

pub row_226 : said.Row_226
unfolding computes
row_226 = refl

pub row_231 : said.Row_231
unfolding computes
row_231 = refl

pub row_235 : said.Row_235
unfolding computes
row_235 = refl

pub row_240 : said.Row_240
unfolding computes
row_240 = refl

pub row_247 : said.Row_247
unfolding computes
row_247 = refl

pub row_254 : said.Row_254
unfolding computes
row_254 = refl
