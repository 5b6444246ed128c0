-- What the lines of a block keep that are read.
use Rattle.std.specs.Prelude.{List, IsTrue}
use Rattle.std.specs.List.{list_all}
use Rattle.cm_board.specs.Items.{ItemText}
use Rattle.cm_board.specs.Kept.{is_few, is_good, slots}
use Rattle.cm_board.specs.Table.{TableText}
use Rattle.cm_board.specs.declared.table.Head.{Head}

-- each may stand in the block, and none too often
pub record AreItems (t : TableText) (head : Head) (items : List ItemText) : Type 0 where
  pub good : IsTrue (list_all (is_good t head) items)
  pub few : IsTrue (list_all (is_few head.version) (slots t head items))
