use Rattle.std.proofs.Common.{◌≡◌, ℕ, ◌-◌, ◌+◌, List, [], length, take, slice_range, refl, sym, ap, ◌∙◌, arith, rules}
use Rattle.std.proofs.Common.{append-nil}
use Rattle.std.proofs.lemmas.List.{with_items_is, places}
use Rattle.std.specs.Vec.{with_items}
use borrow.Rule.Slice.PartMut.{put_mid}
use Rattle.unity_base.specs.Window.{held}
use Rattle.unity_base.proofs.Windows.{grown, kept, none_given, HasRead-more}
use Rattle.unity_base.proofs.window.Window.read_behind.Goals as goal

pub returns-in_err-count-clause-read : goal.returns-in_err-count-clause-read
returns-in_err-count-clause-read g c =
    let w = c.args.self.now in
    let room = length c.deref_mut.result.now - w.to in
    let buf = c.read.new.buf in
    let items : (with_items w.buffer (put_mid w.to room c.deref_mut.result.now buf)).items
    ≡ put_mid w.to room w.buffer.items buf =
    with_items_is w.buffer _ (search (rules, places)) ∙ ap (λ (xs : List ℕ). put_mid w.to room xs buf)
    c.deref_mut.ensures.value in
    HasRead-more w _ _ _ [] (ap (λ (xs : List ℕ). slice_range xs w.from w.to) items
    ∙ kept w.buffer.items buf w.from w.to room (omega arith) (omega arith) ∙ sym (append-nil (held w)))
    (none_given _ _ c.in_err-count.ensures.bytes) refl refl

pub returns-clause-read : goal.returns-clause-read
returns-clause-read g c =
    let w = c.args.self.now in
    let room = length c.deref_mut.result.now - w.to in
    let buf = c.read.new.buf in
    let n = c.in_ok-count.count in
    let items : (with_items w.buffer (put_mid w.to room c.deref_mut.result.now buf)).items
    ≡ put_mid w.to room w.buffer.items buf =
    with_items_is w.buffer _ (search (rules, places)) ∙ ap (λ (xs : List ℕ). put_mid w.to room xs buf)
    c.deref_mut.ensures.value in
    HasRead-more w _ _ _ (take n buf) (ap (λ (xs : List ℕ). slice_range xs w.from (w.to + n)) items
    ∙ grown w.buffer.items buf w.from w.to room n (omega arith) (omega arith) c.in_ok-count.ensures.bound.0)
    c.in_ok-count.ensures.bytes.0 refl refl
