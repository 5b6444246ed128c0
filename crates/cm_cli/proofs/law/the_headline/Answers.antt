use Rattle.cm_cli.proofs.law.the_headline.Goals as goal

pub returns : goal.returns
returns c only bytes job e =
    let sound = c.jobs_are_sound.ensures only bytes job e in
    record {
      reads = c.what_is_read_is_a_prefix.ensures job sound;
      goes = c.sessions_go_well.ensures job sound;
      loses = c.losses_come_exactly.ensures job sound;
      puts = c.what_is_put_out_is_a_prefix.ensures job sound;
      shown = c.each_read_can_be_read_back.ensures job sound;
    }
