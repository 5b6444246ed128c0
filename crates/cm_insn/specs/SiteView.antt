-- How contracts see a subdevice with its signals.
use Rattle.cm_insn.specs.Site.{SiteText}
use Rattle.cm_insn.specs.declared.site.Site.{Site}

-- a site as contracts see it
abbrev pub site_text : Site → SiteText
site_text s = record {
  sub = s.sub.now;
  index = s.index;
  signals = s.signals.now;
  time = s.time;
}
