-- Made by tools/make_examples
use Rattle.cm_examples.proofs.Boards as computed
use Rattle.cm_examples.proofs.law.the_boards_compute.Goals as goal

pub returns : goal.returns
returns c = record {
  adl_pci9111 = computed.adl_pci9111;
  adl_pci9111_fifo = computed.adl_pci9111_fifo;
  cb_pcidas1602_16 = computed.cb_pcidas1602_16;
  cio_das16_jr = computed.cio_das16_jr;
  cio_das802_16 = computed.cio_das802_16;
  comedi_test = computed.comedi_test;
  das1801st = computed.das1801st;
  dt2811_pgh = computed.dt2811_pgh;
  ni_pci_6025e = computed.ni_pci_6025e;
  ni_pci_6025e_fifo = computed.ni_pci_6025e_fifo;
  ni_pci_6221 = computed.ni_pci_6221;
  ni_pci_6704 = computed.ni_pci_6704;
  ni_pci_mio_16e_1 = computed.ni_pci_mio_16e_1;
}
