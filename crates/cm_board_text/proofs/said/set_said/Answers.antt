use Rattle.std.proofs.Common.{◌≡◌, ℕ, ◌+◌, List, map, ap, ◌∙◌, arith}
use Rattle.cm_board.specs.Items.{ItemText}
use Rattle.cm_board.specs.Said.{channel_place, first_of, greatest, munge_said, number_at, range_said}
use Rattle.cm_board.specs.Slots.{of_row}
use Rattle.cm_board.specs.declared.lines.TheConstants as lines
use Rattle.cm_board_text.proofs.said.set_said.Goals as goal

pub returns : goal.returns
returns c =
    let items : List ItemText = c.args.items.now in
    let bits : c.channel_place-place.result + lines.CHAN_BITS ≡ channel_place c.args.chan lines.CHAN_BITS = omega (arith, c.channel_place-place.ensures.place) in
    let munge : c.channel_place-place.result + lines.CHAN_MUNGE ≡ channel_place c.args.chan lines.CHAN_MUNGE = omega (arith, c.channel_place-place.ensures.place) in
    let range : c.channel_place-place.result + lines.CHAN_RANGE ≡ channel_place c.args.chan lines.CHAN_RANGE = omega (arith, c.channel_place-place.ensures.place) in
    λ i. record {
      chan = c.args.chan;
      maxdata = (c.maxdata_of.ensures ∙ ap (λ (n : ℕ). first_of (map (λ (item : ItemText). greatest (number_at 1 item.values)) (of_row n items))) bits) i;
      munge = (c.munge_of.ensures
          ∙ ap (λ (n : ℕ). first_of (map (munge_said lines.CHAN_MUNGE_NONE 1) (of_row n items))) munge) i;
      ranges = (c.in_ok-ranges.ensures ∙ ap (λ (n : ℕ). map (range_said 1) (of_row n items)) range) i;
    }
