-- What is told to a question that has no time.
use Rattle.std.specs.Prelude.{ℕ, List, ◌++◌, codes}
use Rattle.cm_board_text.specs.Printed.{printed_board}
use Rattle.cm_test.specs.Testing.{test_answer}
use Rattle.cm_dialogue.specs.declared.dialogue_line.Untimed.{Untimed}
use Rattle.cm_dialogue.specs.declared.dialogue_line.Untimed.TheVariants.{Test, CmdTest, Describe, Subdevices, Claims}
use Rattle.cm_serve.specs.Claimed.{claims_text}
use Rattle.cm_serve.specs.CmdTest.{cmdtest_text}
use Rattle.cm_serve.specs.Playing.{Play}
use Rattle.cm_serve.specs.Subdevices.{subdevices_text}

-- the answer to each of them
abbrev pub told : Play → Untimed → List ℕ
told p (Test cmd) = test_answer p.setting.board cmd
told p (CmdTest cmd) = cmdtest_text p.setting.board cmd
told p Describe = printed_board p.setting.board ++ codes "ok\n"
told p Subdevices = subdevices_text p.setting.board p.setting.signals.horizon
told p Claims = claims_text p.state.files
