use Rattle.std.proofs.Common.{◌≡◌, ◌++◌, [], take, sym, ap, ◌∙◌, subst, append-nil}
use Rattle.std.specs.Io.KnownBytes.{Appends}
use Rattle.unity_base.specs.Streams.{AppendsPart}
use Rattle.schedule_replay.proofs.buffer.Buffer.finish.Goals as goal

pub returns-then-self-clause-part : goal.returns-then-self-clause-part
returns-then-self-clause-part g c = λ old count text s.
    subst (AppendsPart old _) (append-nil text) ((c.send.ensures.put.adds old count text s).part c.if-self.true)

pub returns-then-self-clause-cause : goal.returns-then-self-clause-cause
returns-then-self-clause-cause g c = λ old count text s.
    let end = c.send.ensures.put.adds old count text s in
    record { later = end.later; same = λ e. cc; rose = λ _. end.rose c.if-self.true }

pub returns-else-self-clause-whole : goal.returns-else-self-clause-whole
returns-else-self-clause-whole g c = λ old count text s.
    let end = (c.send.ensures.put.adds old count text s).sent c.if-self.false in
    let none : take c.send.new.self.len c.send.new.self.bytes ≡ [] =
    ap (λ n. take n c.send.new.self.bytes) (c.send.ensures.none_waits c.if-self.false) in
    subst (Appends old _) (sym (append-nil end.sent) ∙ ap (λ w. end.sent ++ w) (sym none) ∙ sym end.whole
    ∙ append-nil text)
    end.appended

pub returns-else-self-clause-cause : goal.returns-else-self-clause-cause
returns-else-self-clause-cause g c = λ old count text s.
    let end = c.send.ensures.put.adds old count text s in
    record { later = end.later; same = λ _. end.same c.if-self.false; rose = λ e. cc }
