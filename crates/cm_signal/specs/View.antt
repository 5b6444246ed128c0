-- How contracts see signals.
use Rattle.cm_signal.specs.Signals.{SignalsText}
use Rattle.cm_signal.specs.declared.signals.Signals.TheInside.{Inside}

-- signals as contracts see them
abbrev pub signals_text : Inside → SignalsText
signals_text s = record {
  horizon = s.horizon;
  waves = s.waves.items;
  edges = s.edges.items;
  falls = s.falls.items;
  ints = s.ints.items;
}
