-- How contracts see how a command's samples are reported.
use Rattle.cm_text.specs.Format.{Format, IsFormat}
use Rattle.cm_text.specs.Scales.{AreScales}
use Rattle.cm_text.specs.declared.line_format.LineFormat.TheInside.{Inside}

-- how a command's samples are reported: its subdevice, its list, and whether they stay raw
abbrev pub format_view : Inside → Format
format_view f = record { sub = f.sub.now; list = f.list.now; raw = f.raw }

-- each sample can be reported, by the scale of its list entry
pub record IsLineFormat (f : Inside) : Type 0 where
  pub format : IsFormat (format_view f)
  pub scales : AreScales f.sub.now f.list.now f.scales.items
