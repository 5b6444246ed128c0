-- Blocks that are written one after another.
use Rattle.std.proofs.Common.{◌≡◌, ℕ, ◌+◌, ◌<◌, List, [], ◌∷◌, ◌++◌, length, get_or, drop, Option, refl, sym, ap, subst, ◌∙◌, append-nil, append_assoc}
use Rattle.std.specs.Io.KnownBytes.{Appends}
use Rattle.std.specs.declared.vec.Vec.{Vec}
use Rattle.std.proofs.lemmas.List.{drop_more}
use Rattle.cm_base.specs.Transfer.{AppendsPrefix, IsUnderWay}
use Rattle.cm_base.proofs.UnderWay.{under_way-failed, under_way-more, under_way-moved}
use Rattle.cm_text.specs.Joined.{joined}

pub joined_more : {Z : Type 0} (blocks : List (Vec ℕ Z)) (block : Vec ℕ Z) → joined (blocks ++ block ∷ []) ≡ joined blocks ++ block.items
joined_more [] block = append-nil block.items
joined_more (first ∷ blocks) block = ap (λ (t : List ℕ). first.items ++ t) (joined_more blocks block) ∙ sym (append_assoc first.items (joined blocks) block.items)

pub joined-drop : {Z : Type 0} (blocks : List (Vec ℕ Z)) (i : ℕ) (d : Vec ℕ Z) → i < length blocks → joined (drop i blocks) ≡ (get_or blocks i d).items ++ joined (drop (i + 1) blocks)
joined-drop {Z = Z} blocks i d within = ap (λ (bs : List (Vec ℕ Z)). joined bs) (drop_more blocks i d within)

-- the next block is the next part of the text
next_block : {Z : Type 0} (a b : Option (List ℕ)) (blocks : List (Vec ℕ Z)) (i : ℕ) (block : Vec ℕ Z) (text : List ℕ) → i < length blocks → get_or blocks i block ≡ block → text ≡ block.items →
    IsUnderWay a b [] (joined (drop i blocks)) (joined blocks) → IsUnderWay a b text (joined (drop (i + 1) blocks)) (joined blocks)
next_block {Z = Z} a b blocks i block text within at is way =
    let rest = joined (drop (i + 1) blocks) in
    let split : joined (drop i blocks) ≡ text ++ rest = joined-drop blocks i block within ∙ ap (λ (t : List ℕ). t ++ rest) (ap (λ (v : Vec ℕ Z). v.items) at ∙ sym is) in
    under_way-more a b [] text text rest (joined blocks) refl (subst (λ (r : List ℕ). IsUnderWay a b [] r (joined blocks)) split way)

-- a block more is written
pub block_written : {Z : Type 0} (a b c : Option (List ℕ)) (blocks : List (Vec ℕ Z)) (i : ℕ) (block : Vec ℕ Z) (text : List ℕ) → i < length blocks → get_or blocks i block ≡ block → text ≡ block.items →
    Appends b c text → IsUnderWay a b [] (joined (drop i blocks)) (joined blocks) → IsUnderWay a c [] (joined (drop (i + 1) blocks)) (joined blocks)
block_written a b c blocks i block text within at is last way =
    under_way-moved a b c text [] (joined (drop (i + 1) blocks)) (joined blocks) (text, last, sym (append-nil text)) (next_block a b blocks i block text within at is way)

-- a block that isn't written whole leaves a prefix of the text
pub block_failed : {Z : Type 0} (a b c : Option (List ℕ)) (blocks : List (Vec ℕ Z)) (i : ℕ) (block : Vec ℕ Z) (text : List ℕ) → i < length blocks → get_or blocks i block ≡ block → text ≡ block.items →
    AppendsPrefix b c text → IsUnderWay a b [] (joined (drop i blocks)) (joined blocks) → AppendsPrefix a c (joined blocks)
block_failed a b c blocks i block text within at is failed way =
    under_way-failed a b c text (joined (drop (i + 1) blocks)) (joined blocks) failed (next_block a b blocks i block text within at is way)
