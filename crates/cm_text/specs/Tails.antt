-- The words of an end, and the line that ends a block.
use Rattle.std.specs.Prelude.{ℕ, List, ◌++◌, codes}
use Rattle.std.specs.Fmt.{decimal}
use Rattle.cm_text.specs.declared.end.End.{End}
use Rattle.cm_text.specs.declared.end.End.TheVariants as ends
use Rattle.cm_text.specs.declared.tail.Tail.{Tail}
use Rattle.cm_text.specs.declared.tail.Tail.TheVariants as tails

-- the words of an end
abbrev pub end_words : End → List ℕ
end_words ends.Done = codes "done"
end_words ends.Dry = codes "dry"
end_words (ends.Overrun k) = codes "overrun " ++ decimal k
end_words (ends.Underrun k) = codes "underrun " ++ decimal k
end_words (ends.Fifo k) = codes "fifo " ++ decimal k

-- the line that ends a block: the words of an end, or how many samples were taken
abbrev pub tail_text : Tail → List ℕ
tail_text tails.Done = end_words ends.Done ++ codes "\n"
tail_text tails.Dry = end_words ends.Dry ++ codes "\n"
tail_text (tails.Overrun k) = end_words (ends.Overrun k) ++ codes "\n"
tail_text (tails.Taken n) = codes "taken " ++ decimal n ++ codes "\n"
tail_text (tails.Underrun v) = end_words (ends.Underrun v) ++ codes "\n"
