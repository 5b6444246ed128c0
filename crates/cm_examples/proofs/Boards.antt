-- Made by tools/make_examples: the examples of `examples/boards`, each with its session,, computed
use Rattle.std.proofs.Common.{refl}
use Rattle.cm_examples.specs.Boards as said
use Rattle.cm_examples.proofs.Computes.{computes}

pub adl_pci9111 : said.AdlPci9111
unfolding computes
adl_pci9111 = refl

pub adl_pci9111_fifo : said.AdlPci9111Fifo
unfolding computes
adl_pci9111_fifo = refl

pub cb_pcidas1602_16 : said.CbPcidas160216
unfolding computes
cb_pcidas1602_16 = refl

pub cio_das16_jr : said.CioDas16Jr
unfolding computes
cio_das16_jr = refl

pub cio_das802_16 : said.CioDas80216
unfolding computes
cio_das802_16 = refl

pub comedi_test : said.ComediTest
unfolding computes
comedi_test = refl

pub das1801st : said.Das1801st
unfolding computes
das1801st = refl

pub dt2811_pgh : said.Dt2811Pgh
unfolding computes
dt2811_pgh = refl

pub ni_pci_6025e : said.NiPci6025e
unfolding computes
ni_pci_6025e = refl

pub ni_pci_6025e_fifo : said.NiPci6025eFifo
unfolding computes
ni_pci_6025e_fifo = refl

pub ni_pci_6221 : said.NiPci6221
unfolding computes
ni_pci_6221 = refl

pub ni_pci_6704 : said.NiPci6704
unfolding computes
ni_pci_6704 = refl

pub ni_pci_mio_16e_1 : said.NiPciMio16e1
unfolding computes
ni_pci_mio_16e_1 = refl
