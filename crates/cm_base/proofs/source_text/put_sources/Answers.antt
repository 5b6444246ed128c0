use Rattle.std.proofs.Common.{◌≡◌, ℕ, true, false, List, [], ◌∷◌, ◌++◌, sym, ap, ◌∙◌, append-nil}
use Rattle.std.specs.Prelude.{codes}
use Rattle.cm_base.specs.Source.{source_names}
use Rattle.cm_base.proofs.Barred.{reported_after, reported_more, written_barred, written_more}
use Rattle.cm_base.proofs.source_text.put_sources.Goals as goal

pub returns-else-not-some : goal.returns-else-not-some
returns-else-not-some c =
    let mask : ℕ = c.args.mask in
    let r1 : List (ℕ × List ℕ) = (2, codes "now") ∷ (4, codes "follow") ∷ (8, codes "time") ∷ (16, codes "timer") ∷ (32, codes "count") ∷ (64, codes "ext") ∷ (128, codes "int") ∷ (256, codes "other") ∷ [] in
    let r2 : List (ℕ × List ℕ) = (4, codes "follow") ∷ (8, codes "time") ∷ (16, codes "timer") ∷ (32, codes "count") ∷ (64, codes "ext") ∷ (128, codes "int") ∷ (256, codes "other") ∷ [] in
    let r3 : List (ℕ × List ℕ) = (8, codes "time") ∷ (16, codes "timer") ∷ (32, codes "count") ∷ (64, codes "ext") ∷ (128, codes "int") ∷ (256, codes "other") ∷ [] in
    let r4 : List (ℕ × List ℕ) = (16, codes "timer") ∷ (32, codes "count") ∷ (64, codes "ext") ∷ (128, codes "int") ∷ (256, codes "other") ∷ [] in
    let r5 : List (ℕ × List ℕ) = (32, codes "count") ∷ (64, codes "ext") ∷ (128, codes "int") ∷ (256, codes "other") ∷ [] in
    let r6 : List (ℕ × List ℕ) = (64, codes "ext") ∷ (128, codes "int") ∷ (256, codes "other") ∷ [] in
    let r7 : List (ℕ × List ℕ) = (128, codes "int") ∷ (256, codes "other") ∷ [] in
    let r8 : List (ℕ × List ℕ) = (256, codes "other") ∷ [] in
    let r9 : List (ℕ × List ℕ) = [] in
    let w1 = written_more mask c.args.out.now.items c.put_source.new.out.items false c.in_ok-some.some (1, codes "none") r1 c.in_ok-some.ensures.text c.in_ok-some.ensures.some in
    let t1 = reported_more mask false c.in_ok-some.some (1, codes "none") r1 c.in_ok-some.ensures.some in
    let w2 = written_more mask c.put_source.new.out.items c.put_source-2.new.out.items c.in_ok-some.some c.in_ok-some-2.some (2, codes "now") r2 c.in_ok-some-2.ensures.text c.in_ok-some-2.ensures.some in
    let t2 = reported_more mask c.in_ok-some.some c.in_ok-some-2.some (2, codes "now") r2 c.in_ok-some-2.ensures.some in
    let w3 = written_more mask c.put_source-2.new.out.items c.put_source-3.new.out.items c.in_ok-some-2.some c.in_ok-some-3.some (4, codes "follow") r3 c.in_ok-some-3.ensures.text c.in_ok-some-3.ensures.some in
    let t3 = reported_more mask c.in_ok-some-2.some c.in_ok-some-3.some (4, codes "follow") r3 c.in_ok-some-3.ensures.some in
    let w4 = written_more mask c.put_source-3.new.out.items c.put_source-4.new.out.items c.in_ok-some-3.some c.in_ok-some-4.some (8, codes "time") r4 c.in_ok-some-4.ensures.text c.in_ok-some-4.ensures.some in
    let t4 = reported_more mask c.in_ok-some-3.some c.in_ok-some-4.some (8, codes "time") r4 c.in_ok-some-4.ensures.some in
    let w5 = written_more mask c.put_source-4.new.out.items c.put_source-5.new.out.items c.in_ok-some-4.some c.in_ok-some-5.some (16, codes "timer") r5 c.in_ok-some-5.ensures.text c.in_ok-some-5.ensures.some in
    let t5 = reported_more mask c.in_ok-some-4.some c.in_ok-some-5.some (16, codes "timer") r5 c.in_ok-some-5.ensures.some in
    let w6 = written_more mask c.put_source-5.new.out.items c.put_source-6.new.out.items c.in_ok-some-5.some c.in_ok-some-6.some (32, codes "count") r6 c.in_ok-some-6.ensures.text c.in_ok-some-6.ensures.some in
    let t6 = reported_more mask c.in_ok-some-5.some c.in_ok-some-6.some (32, codes "count") r6 c.in_ok-some-6.ensures.some in
    let w7 = written_more mask c.put_source-6.new.out.items c.put_source-7.new.out.items c.in_ok-some-6.some c.in_ok-some-7.some (64, codes "ext") r7 c.in_ok-some-7.ensures.text c.in_ok-some-7.ensures.some in
    let t7 = reported_more mask c.in_ok-some-6.some c.in_ok-some-7.some (64, codes "ext") r7 c.in_ok-some-7.ensures.some in
    let w8 = written_more mask c.put_source-7.new.out.items c.put_source-8.new.out.items c.in_ok-some-7.some c.in_ok-some-8.some (128, codes "int") r8 c.in_ok-some-8.ensures.text c.in_ok-some-8.ensures.some in
    let t8 = reported_more mask c.in_ok-some-7.some c.in_ok-some-8.some (128, codes "int") r8 c.in_ok-some-8.ensures.some in
    let w9 = written_more mask c.put_source-8.new.out.items c.put_source-9.new.out.items c.in_ok-some-8.some c.in_ok-some-9.some (256, codes "other") r9 c.in_ok-some-9.ensures.text c.in_ok-some-9.ensures.some in
    let t9 = reported_more mask c.in_ok-some-8.some c.in_ok-some-9.some (256, codes "other") r9 c.in_ok-some-9.ensures.some in
    let reported : reported_after mask false source_names ≡ true = sym (t9 ∙ t8 ∙ t7 ∙ t6 ∙ t5 ∙ t4 ∙ t3 ∙ t2 ∙ t1) ∙ c.if-not-some.false in
    sym (append-nil c.put_source-9.new.out.items) ∙ w9 ∙ w8 ∙ w7 ∙ w6 ∙ w5 ∙ w4 ∙ w3 ∙ w2 ∙ w1 ∙ ap (λ (text : List ℕ). c.args.out.now.items ++ text) (written_barred mask source_names reported)
