-- Made by tools/make_examples
use Rattle.cm_examples.proofs.Examples as computed
use Rattle.cm_examples.proofs.law.the_examples_compute.Goals as goal

pub returns : goal.returns
returns c = record {
  channels_of_two_forms = computed.channels_of_two_forms;
  expand_lost_edges = computed.expand_lost_edges;
  gate_from_fall_to_rise = computed.gate_from_fall_to_rise;
  lines_and_a_lock = computed.lines_and_a_lock;
  loop_two_channels = computed.loop_two_channels;
  fifo_overflow = computed.fifo_overflow;
  mapped_scan = computed.mapped_scan;
  overrun_at_fifth_sample = computed.overrun_at_fifth_sample;
  replay_done = computed.replay_done;
  replay_dry = computed.replay_dry;
  waveform_output = computed.waveform_output;
  run_four_lines = computed.run_four_lines;
  test_all_sources = computed.test_all_sources;
  test_repaired_twice = computed.test_repaired_twice;
  watch_three_inputs = computed.watch_three_inputs;
}
