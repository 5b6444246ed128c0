-- Made by tools/make_examples: the examples of `examples`, computed
use Rattle.std.proofs.Common.{refl}
use Rattle.cm_examples.specs.Examples as said
use Rattle.cm_examples.proofs.Computes.{computes}

pub channels_of_two_forms : said.ChannelsOfTwoForms
unfolding computes
channels_of_two_forms = refl

pub expand_lost_edges : said.ExpandLostEdges
unfolding computes
expand_lost_edges = refl

pub gate_from_fall_to_rise : said.GateFromFallToRise
unfolding computes
gate_from_fall_to_rise = refl

pub lines_and_a_lock : said.LinesAndALock
unfolding computes
lines_and_a_lock = refl

pub loop_two_channels : said.LoopTwoChannels
unfolding computes
loop_two_channels = refl

pub fifo_overflow : said.FifoOverflow
unfolding computes
fifo_overflow = refl

pub mapped_scan : said.MappedScan
unfolding computes
mapped_scan = refl

pub overrun_at_fifth_sample : said.OverrunAtFifthSample
unfolding computes
overrun_at_fifth_sample = refl

pub replay_done : said.ReplayDone
unfolding computes
replay_done = refl

pub replay_dry : said.ReplayDry
unfolding computes
replay_dry = refl

pub waveform_output : said.WaveformOutput
unfolding computes
waveform_output = refl

pub run_four_lines : said.RunFourLines
unfolding computes
run_four_lines = refl

pub test_all_sources : said.TestAllSources
unfolding computes
test_all_sources = refl

pub test_repaired_twice : said.TestRepairedTwice
unfolding computes
test_repaired_twice = refl

pub watch_three_inputs : said.WatchThreeInputs
unfolding computes
watch_three_inputs = refl
