use Rattle.std.proofs.Common.{◌∙◌, ◌⊎◌, rules, sym, ap, subst, Some, option_map}
use Rattle.std.specs.Io.KnownBytes.{IsAtEnd}
use Rattle.std.specs.Option.{option_copied}
use Rattle.unity_base.specs.Streams.{IsLongerThan}
use Rattle.unity_cli.specs.Answer.{most_bytes}
use Rattle.unity_cli.specs.Input.{IsTextOf}
use Rattle.unity_cli.proofs.Told.{bad_words, told_whole, told_part}
use Rattle.unity_cli.proofs.Streamed.{streamed_whole, streamed_part, streamed_follows, streamed_claims, streamed_tells}
use Rattle.unity_cli.proofs.Streamed.{streamed_runs, streamed_starts, check_is_no_watch, check_reads}
use Rattle.unity_cli.proofs.Streamed.{others_no_check}
use Rattle.unity_cli.proofs.Watched.{done_kept, done_unviolated, done_violated}
use Rattle.unity_cli.proofs.Shown.{ring_is_no_check, ring_is_no_watch}
use Rattle.unity_cli.proofs.Unread.{unread_whole, unread_part, others_read, constant_none}
use Rattle.unity_cli.proofs.Unread.{constant_is_no_check, constant_is_no_watch, constant_reads_nothing}
use Rattle.cli_words.specs.Requests.{asked, demo, meant}
use Rattle.unity_cli.proofs.top.unity.Goals as goal

pub returns-in-Ok-clause-answer : goal.returns-in-Ok-clause-answer
returns-in-Ok-clause-answer g c = λ _ _. record {
  text = _;
  answer = bad_words _ _ (search rules);
  appends = c.in-Ok.ensures.whole;
}

pub returns-in-Err-clause-part : goal.returns-in-Err-clause-part
returns-in-Err-clause-part g c = λ _ _. record {
  status = _;
  text = _;
  answer = bad_words _ _ (search rules);
  part = c.in-Err.ensures.part;
}

pub returns-in-Some-constant_of-clause-answer : goal.returns-in-Some-constant_of-clause-answer
returns-in-Some-constant_of-clause-answer g c = λ has said.
    unread_whole (asked c.args.words.now) (meant c.in-Some.command) (g.S.Source.left c.args.src.now)
    (g.K.Sink.written c.args.out.now) (g.K.Sink.written c.write_constant.new.out) c.write_constant.result
    (sym c.read_words.ensures.asked ∙ ap (option_map meant) c.in-Some.is)
    (c.write_constant.ensures.told (meant c.in-Some.command)
    (sym c.constant_of.ensures ∙ ap option_copied c.in-Some-constant_of.is)) has

pub returns-in-Some-constant_of-clause-part : goal.returns-in-Some-constant_of-clause-part
returns-in-Some-constant_of-clause-part g c = λ fault said.
    unread_part (asked c.args.words.now) (meant c.in-Some.command) (g.S.Source.left c.args.src.now)
    (g.K.Sink.written c.args.out.now) (g.K.Sink.written c.write_constant.new.out) c.write_constant.result
    (sym c.read_words.ensures.asked ∙ ap (option_map meant) c.in-Some.is)
    (c.write_constant.ensures.told (meant c.in-Some.command)
    (sym c.constant_of.ensures ∙ ap option_copied c.in-Some-constant_of.is)) fault

pub returns-in-Some-constant_of-clause-follows : goal.returns-in-Some-constant_of-clause-follows
returns-in-Some-constant_of-clause-follows g c = λ _ is_check. absurd (constant_is_no_check (asked c.args.words.now)
    (meant c.in-Some.command) c.in-Some-constant_of.text.now
    (sym c.read_words.ensures.asked ∙ ap (option_map meant) c.in-Some.is)
    (sym c.constant_of.ensures ∙ ap option_copied c.in-Some-constant_of.is) is_check)

pub returns-in-Some-constant_of-clause-safe : goal.returns-in-Some-constant_of-clause-safe
returns-in-Some-constant_of-clause-safe g c = λ _ is_check. absurd (constant_is_no_check (asked c.args.words.now)
    (meant c.in-Some.command) c.in-Some-constant_of.text.now
    (sym c.read_words.ensures.asked ∙ ap (option_map meant) c.in-Some.is)
    (sym c.constant_of.ensures ∙ ap option_copied c.in-Some-constant_of.is) is_check)

pub returns-in-Some-constant_of-clause-bounds : goal.returns-in-Some-constant_of-clause-bounds
returns-in-Some-constant_of-clause-bounds g c = λ _ is_check. absurd (constant_is_no_check (asked c.args.words.now)
    (meant c.in-Some.command) c.in-Some-constant_of.text.now
    (sym c.read_words.ensures.asked ∙ ap (option_map meant) c.in-Some.is)
    (sym c.constant_of.ensures ∙ ap option_copied c.in-Some-constant_of.is) is_check)

pub returns-in-Some-constant_of-clause-runs : goal.returns-in-Some-constant_of-clause-runs
returns-in-Some-constant_of-clause-runs g c = λ _ is_check. absurd (constant_is_no_check (asked c.args.words.now)
    (meant c.in-Some.command) c.in-Some-constant_of.text.now
    (sym c.read_words.ensures.asked ∙ ap (option_map meant) c.in-Some.is)
    (sym c.constant_of.ensures ∙ ap option_copied c.in-Some-constant_of.is) is_check)

pub returns-in-Some-constant_of-clause-starts : goal.returns-in-Some-constant_of-clause-starts
returns-in-Some-constant_of-clause-starts g c = λ _ is_check. absurd (constant_is_no_check (asked c.args.words.now)
    (meant c.in-Some.command) c.in-Some-constant_of.text.now
    (sym c.read_words.ensures.asked ∙ ap (option_map meant) c.in-Some.is)
    (sym c.constant_of.ensures ∙ ap option_copied c.in-Some-constant_of.is) is_check)

pub returns-in-Some-constant_of-clause-form : goal.returns-in-Some-constant_of-clause-form
returns-in-Some-constant_of-clause-form g c = λ _ is_check. absurd (constant_is_no_check (asked c.args.words.now)
    (meant c.in-Some.command) c.in-Some-constant_of.text.now
    (sym c.read_words.ensures.asked ∙ ap (option_map meant) c.in-Some.is)
    (sym c.constant_of.ensures ∙ ap option_copied c.in-Some-constant_of.is) is_check)

pub returns-in-Some-constant_of-clause-part_form : goal.returns-in-Some-constant_of-clause-part_form
returns-in-Some-constant_of-clause-part_form g c = λ _ is_check. absurd (constant_is_no_check (asked c.args.words.now)
    (meant c.in-Some.command) c.in-Some-constant_of.text.now
    (sym c.read_words.ensures.asked ∙ ap (option_map meant) c.in-Some.is)
    (sym c.constant_of.ensures ∙ ap option_copied c.in-Some-constant_of.is) is_check)

pub returns-in-Some-constant_of-clause-violated : goal.returns-in-Some-constant_of-clause-violated
returns-in-Some-constant_of-clause-violated g c = λ _ is_watch. absurd (constant_is_no_watch (asked c.args.words.now)
    (meant c.in-Some.command) c.in-Some-constant_of.text.now
    (sym c.read_words.ensures.asked ∙ ap (option_map meant) c.in-Some.is)
    (sym c.constant_of.ensures ∙ ap option_copied c.in-Some-constant_of.is) is_watch)

pub returns-in-Some-constant_of-clause-unviolated : goal.returns-in-Some-constant_of-clause-unviolated
returns-in-Some-constant_of-clause-unviolated g c = λ _ is_watch. absurd (constant_is_no_watch (asked c.args.words.now)
    (meant c.in-Some.command) c.in-Some-constant_of.text.now
    (sym c.read_words.ensures.asked ∙ ap (option_map meant) c.in-Some.is)
    (sym c.constant_of.ensures ∙ ap option_copied c.in-Some-constant_of.is) is_watch)

pub returns-in-Some-constant_of-clause-kept : goal.returns-in-Some-constant_of-clause-kept
returns-in-Some-constant_of-clause-kept g c = λ _ is_watch. absurd (constant_is_no_watch (asked c.args.words.now)
    (meant c.in-Some.command) c.in-Some-constant_of.text.now
    (sym c.read_words.ensures.asked ∙ ap (option_map meant) c.in-Some.is)
    (sym c.constant_of.ensures ∙ ap option_copied c.in-Some-constant_of.is) is_watch)

pub returns-in-Some-constant_of-clause-end : goal.returns-in-Some-constant_of-clause-end
returns-in-Some-constant_of-clause-end g c = λ reads. absurd (constant_reads_nothing (asked c.args.words.now)
    (meant c.in-Some.command) c.in-Some-constant_of.text.now
    (sym c.read_words.ensures.asked ∙ ap (option_map meant) c.in-Some.is)
    (sym c.constant_of.ensures ∙ ap option_copied c.in-Some-constant_of.is) reads)

pub returns-in-Demo-clause-answer : goal.returns-in-Demo-clause-answer
returns-in-Demo-clause-answer g c = λ has said.
    unread_whole (asked c.args.words.now) (demo c.in-Demo.places) (g.S.Source.left c.args.src.now)
    (g.K.Sink.written c.args.out.now) (g.K.Sink.written c.write_demo.new.out) c.write_demo.result
    (sym c.read_words.ensures.asked ∙ ap (option_map meant) c.in-Some.is ∙ ap (λ x. Some (meant x)) c.in-Demo.is)
    c.write_demo.ensures.told has

pub returns-in-Demo-clause-part : goal.returns-in-Demo-clause-part
returns-in-Demo-clause-part g c = λ fault said.
    unread_part (asked c.args.words.now) (demo c.in-Demo.places) (g.S.Source.left c.args.src.now)
    (g.K.Sink.written c.args.out.now) (g.K.Sink.written c.write_demo.new.out) c.write_demo.result
    (sym c.read_words.ensures.asked ∙ ap (option_map meant) c.in-Some.is ∙ ap (λ x. Some (meant x)) c.in-Demo.is)
    c.write_demo.ensures.told fault

pub returns-in-Demo-clause-safe : goal.returns-in-Demo-clause-safe
returns-in-Demo-clause-safe g c = λ done is_check. absurd (ring_is_no_check (asked c.args.words.now) c.in-Demo.places
    (sym c.read_words.ensures.asked ∙ ap (option_map meant) c.in-Some.is ∙ ap (λ x. Some (meant x)) c.in-Demo.is)
    is_check)

pub returns-in-Demo-clause-runs : goal.returns-in-Demo-clause-runs
returns-in-Demo-clause-runs g c = λ done is_check. absurd (ring_is_no_check (asked c.args.words.now) c.in-Demo.places
    (sym c.read_words.ensures.asked ∙ ap (option_map meant) c.in-Some.is ∙ ap (λ x. Some (meant x)) c.in-Demo.is)
    is_check)

pub returns-in-Demo-clause-starts : goal.returns-in-Demo-clause-starts
returns-in-Demo-clause-starts g c = λ done is_check. absurd (ring_is_no_check (asked c.args.words.now) c.in-Demo.places
    (sym c.read_words.ensures.asked ∙ ap (option_map meant) c.in-Some.is ∙ ap (λ x. Some (meant x)) c.in-Demo.is)
    is_check)

pub returns-in-Demo-clause-follows : goal.returns-in-Demo-clause-follows
returns-in-Demo-clause-follows g c = λ has is_check. absurd (ring_is_no_check (asked c.args.words.now) c.in-Demo.places
    (sym c.read_words.ensures.asked ∙ ap (option_map meant) c.in-Some.is ∙ ap (λ x. Some (meant x)) c.in-Demo.is)
    is_check)

pub returns-in-Demo-clause-bounds : goal.returns-in-Demo-clause-bounds
returns-in-Demo-clause-bounds g c = λ done is_check. absurd (ring_is_no_check (asked c.args.words.now) c.in-Demo.places
    (sym c.read_words.ensures.asked ∙ ap (option_map meant) c.in-Some.is ∙ ap (λ x. Some (meant x)) c.in-Demo.is)
    is_check)

pub returns-in-Check-clause-answer : goal.returns-in-Check-clause-answer
returns-in-Check-clause-answer g c =
    streamed_whole (asked c.args.words.now) (g.S.Source.left c.args.src.now)
    (g.K.Sink.written c.args.out.now) (g.K.Sink.written c.check_source.new.out) c.check_source.result
    (sym c.read_words.ensures.asked ∙ ap (option_map meant) c.in-Some.is ∙ ap (λ x. Some (meant x)) c.in-Check.is)
    c.check_source.ensures.told

pub returns-in-Check-clause-part : goal.returns-in-Check-clause-part
returns-in-Check-clause-part g c =
    streamed_part (asked c.args.words.now) (g.S.Source.left c.args.src.now)
    (g.K.Sink.written c.args.out.now) (g.K.Sink.written c.check_source.new.out) c.check_source.result
    (sym c.read_words.ensures.asked ∙ ap (option_map meant) c.in-Some.is ∙ ap (λ x. Some (meant x)) c.in-Check.is)
    c.check_source.ensures.told

pub returns-in-Check-clause-follows : goal.returns-in-Check-clause-follows
returns-in-Check-clause-follows g c = λ has is_check.
    streamed_follows (asked c.args.words.now) (g.S.Source.left c.args.src.now)
    (g.K.Sink.written c.args.out.now) (g.K.Sink.written c.check_source.new.out) c.check_source.result
    (sym c.read_words.ensures.asked ∙ ap (option_map meant) c.in-Some.is ∙ ap (λ x. Some (meant x)) c.in-Check.is)
    c.check_source.ensures.told has

pub returns-in-Check-clause-safe : goal.returns-in-Check-clause-safe
returns-in-Check-clause-safe g c = λ done is_check.
    streamed_claims (asked c.args.words.now) (g.S.Source.left c.args.src.now)
    (g.K.Sink.written c.args.out.now) (g.K.Sink.written c.check_source.new.out) c.check_source.result
    (sym c.read_words.ensures.asked ∙ ap (option_map meant) c.in-Some.is ∙ ap (λ x. Some (meant x)) c.in-Check.is)
    c.check_source.ensures.told done

pub returns-in-Check-clause-bounds : goal.returns-in-Check-clause-bounds
returns-in-Check-clause-bounds g c = λ done is_check.
    streamed_tells (asked c.args.words.now) (g.S.Source.left c.args.src.now)
    (g.K.Sink.written c.args.out.now) (g.K.Sink.written c.check_source.new.out) c.check_source.result
    (sym c.read_words.ensures.asked ∙ ap (option_map meant) c.in-Some.is ∙ ap (λ x. Some (meant x)) c.in-Check.is)
    c.check_source.ensures.told done

pub returns-in-Check-clause-runs : goal.returns-in-Check-clause-runs
returns-in-Check-clause-runs g c = λ done is_check.
    streamed_runs (asked c.args.words.now) (g.S.Source.left c.args.src.now)
    (g.K.Sink.written c.args.out.now) (g.K.Sink.written c.check_source.new.out) c.check_source.result
    (sym c.read_words.ensures.asked ∙ ap (option_map meant) c.in-Some.is ∙ ap (λ x. Some (meant x)) c.in-Check.is)
    c.check_source.ensures.told done

pub returns-in-Check-clause-starts : goal.returns-in-Check-clause-starts
returns-in-Check-clause-starts g c = λ done is_check.
    streamed_starts (asked c.args.words.now) (g.S.Source.left c.args.src.now)
    (g.K.Sink.written c.args.out.now) (g.K.Sink.written c.check_source.new.out) c.check_source.result
    (sym c.read_words.ensures.asked ∙ ap (option_map meant) c.in-Some.is ∙ ap (λ x. Some (meant x)) c.in-Check.is)
    c.check_source.ensures.told done

pub returns-in-Check-clause-violated : goal.returns-in-Check-clause-violated
returns-in-Check-clause-violated g c = λ done is_watch. absurd (check_is_no_watch (asked c.args.words.now)
    (sym c.read_words.ensures.asked ∙ ap (option_map meant) c.in-Some.is ∙ ap (λ x. Some (meant x)) c.in-Check.is)
    is_watch)

pub returns-in-Check-clause-unviolated : goal.returns-in-Check-clause-unviolated
returns-in-Check-clause-unviolated g c = λ done is_watch. absurd (check_is_no_watch (asked c.args.words.now)
    (sym c.read_words.ensures.asked ∙ ap (option_map meant) c.in-Some.is ∙ ap (λ x. Some (meant x)) c.in-Check.is)
    is_watch)

pub returns-in-Check-clause-kept : goal.returns-in-Check-clause-kept
returns-in-Check-clause-kept g c = λ violated is_watch. absurd (check_is_no_watch (asked c.args.words.now)
    (sym c.read_words.ensures.asked ∙ ap (option_map meant) c.in-Some.is ∙ ap (λ x. Some (meant x)) c.in-Check.is)
    is_watch)

pub returns-in-Check-clause-untouched : goal.returns-in-Check-clause-untouched
returns-in-Check-clause-untouched g c = λ unread. absurd (check_reads (asked c.args.words.now)
    (sym c.read_words.ensures.asked ∙ ap (option_map meant) c.in-Some.is ∙ ap (λ x. Some (meant x)) c.in-Check.is)
    unread)

pub returns-in-Check-clause-not_read : goal.returns-in-Check-clause-not_read
returns-in-Check-clause-not_read g c = λ unread fault. (check_reads (asked c.args.words.now)
    (sym c.read_words.ensures.asked ∙ ap (option_map meant) c.in-Some.is ∙ ap (λ x. Some (meant x)) c.in-Check.is)
    unread)

pub returns-in-Check-clause-end : goal.returns-in-Check-clause-end
returns-in-Check-clause-end g c = λ reads read memory.
    subst (λ m. IsAtEnd (g.S.Source.left c.check_source.new.src) ⊎ IsLongerThan m (g.S.Source.left c.args.src.now))
    (ap most_bytes (sym (sym c.read_words.ensures.asked ∙ ap (option_map meant) c.in-Some.is
    ∙ ap (λ x. Some (meant x)) c.in-Check.is)))
    (c.check_source.ensures.end read memory)

pub returns-in-Check-clause-form : goal.returns-in-Check-clause-form
returns-in-Check-clause-form g c = λ has is_check. c.check_source.ensures.form has

pub returns-in-Demo-clause-form : goal.returns-in-Demo-clause-form
returns-in-Demo-clause-form g c = λ has is_check. absurd (ring_is_no_check (asked c.args.words.now)
    c.in-Demo.places
    (sym c.read_words.ensures.asked ∙ ap (option_map meant) c.in-Some.is ∙ ap (λ x. Some (meant x)) c.in-Demo.is)
    is_check)

pub returns-in-Check-clause-part_form : goal.returns-in-Check-clause-part_form
returns-in-Check-clause-part_form g c = λ fault is_check. c.check_source.ensures.part fault

pub returns-in-Demo-clause-part_form : goal.returns-in-Demo-clause-part_form
returns-in-Demo-clause-part_form g c = λ fault is_check. absurd (ring_is_no_check (asked c.args.words.now)
    c.in-Demo.places
    (sym c.read_words.ensures.asked ∙ ap (option_map meant) c.in-Some.is ∙ ap (λ x. Some (meant x)) c.in-Demo.is)
    is_check)

pub returns-in-Ok-read_input-clause-untouched : goal.returns-in-Ok-read_input-clause-untouched
returns-in-Ok-read_input-clause-untouched g c = λ unread. absurd (others_read (asked c.args.words.now)
    c.in-Some.command (sym c.read_words.ensures.asked ∙ ap (option_map meant) c.in-Some.is)
    c.in_default-command.not-Demo (constant_none (meant c.in-Some.command) c.constant_of.result c.constant_of.ensures
    c.in_default-constant_of.not-Some) unread)

pub returns-in-Ok-read_input-clause-not_read : goal.returns-in-Ok-read_input-clause-not_read
returns-in-Ok-read_input-clause-not_read g c = λ unread fault. others_read (asked c.args.words.now)
    c.in-Some.command (sym c.read_words.ensures.asked ∙ ap (option_map meant) c.in-Some.is)
    c.in_default-command.not-Demo (constant_none (meant c.in-Some.command) c.constant_of.result c.constant_of.ensures
    c.in_default-constant_of.not-Some) unread

pub returns-in-Err-read_input-clause-untouched : goal.returns-in-Err-read_input-clause-untouched
returns-in-Err-read_input-clause-untouched g c = λ unread. absurd (others_read (asked c.args.words.now)
    c.in-Some.command (sym c.read_words.ensures.asked ∙ ap (option_map meant) c.in-Some.is)
    c.in_default-command.not-Demo (constant_none (meant c.in-Some.command) c.constant_of.result c.constant_of.ensures
    c.in_default-constant_of.not-Some) unread)

pub returns-in-Err-read_input-clause-not_read : goal.returns-in-Err-read_input-clause-not_read
returns-in-Err-read_input-clause-not_read g c = λ unread fault. others_read (asked c.args.words.now)
    c.in-Some.command (sym c.read_words.ensures.asked ∙ ap (option_map meant) c.in-Some.is)
    c.in_default-command.not-Demo (constant_none (meant c.in-Some.command) c.constant_of.result c.constant_of.ensures
    c.in_default-constant_of.not-Some) unread

pub returns-in-Ok-read_input-clause-answer : goal.returns-in-Ok-read_input-clause-answer
returns-in-Ok-read_input-clause-answer g c = λ has said.
    told_whole (asked c.args.words.now) (meant c.in-Some.command) (g.S.Source.left c.args.src.now)
    c.in-Ok-read_input.text
    (g.K.Sink.written c.args.out.now) (g.K.Sink.written c.write_command.new.out) c.write_command.result
    (sym c.read_words.ensures.asked ∙ ap (option_map meant) c.in-Some.is)
    (subst (λ m. IsTextOf m (g.S.Source.left c.args.src.now) c.in-Ok-read_input.text)
    c.most_bytes.ensures.most c.in-Ok-read_input.ensures.input)
    c.write_command.ensures.told has

pub returns-in-Ok-read_input-clause-part : goal.returns-in-Ok-read_input-clause-part
returns-in-Ok-read_input-clause-part g c = λ fault said.
    told_part (asked c.args.words.now) (meant c.in-Some.command) (g.S.Source.left c.args.src.now)
    c.in-Ok-read_input.text
    (g.K.Sink.written c.args.out.now) (g.K.Sink.written c.write_command.new.out) c.write_command.result
    (sym c.read_words.ensures.asked ∙ ap (option_map meant) c.in-Some.is)
    (subst (λ m. IsTextOf m (g.S.Source.left c.args.src.now) c.in-Ok-read_input.text)
    c.most_bytes.ensures.most c.in-Ok-read_input.ensures.input)
    c.write_command.ensures.told fault

pub returns-in-Ok-read_input-clause-safe : goal.returns-in-Ok-read_input-clause-safe
returns-in-Ok-read_input-clause-safe g c = λ done is_check. absurd (others_no_check (asked c.args.words.now)
    c.in-Some.command (sym c.read_words.ensures.asked ∙ ap (option_map meant) c.in-Some.is)
    c.in_default-command-2.not-Check is_check)

pub returns-in-Ok-read_input-clause-runs : goal.returns-in-Ok-read_input-clause-runs
returns-in-Ok-read_input-clause-runs g c = λ done is_check. absurd (others_no_check (asked c.args.words.now)
    c.in-Some.command (sym c.read_words.ensures.asked ∙ ap (option_map meant) c.in-Some.is)
    c.in_default-command-2.not-Check is_check)

pub returns-in-Ok-read_input-clause-starts : goal.returns-in-Ok-read_input-clause-starts
returns-in-Ok-read_input-clause-starts g c = λ done is_check. absurd (others_no_check (asked c.args.words.now)
    c.in-Some.command (sym c.read_words.ensures.asked ∙ ap (option_map meant) c.in-Some.is)
    c.in_default-command-2.not-Check is_check)

pub returns-in-Ok-read_input-clause-follows : goal.returns-in-Ok-read_input-clause-follows
returns-in-Ok-read_input-clause-follows g c = λ has is_check. absurd (others_no_check (asked c.args.words.now)
    c.in-Some.command (sym c.read_words.ensures.asked ∙ ap (option_map meant) c.in-Some.is)
    c.in_default-command-2.not-Check is_check)

pub returns-in-Ok-read_input-clause-bounds : goal.returns-in-Ok-read_input-clause-bounds
returns-in-Ok-read_input-clause-bounds g c = λ done is_check. absurd (others_no_check (asked c.args.words.now)
    c.in-Some.command (sym c.read_words.ensures.asked ∙ ap (option_map meant) c.in-Some.is)
    c.in_default-command-2.not-Check is_check)

pub returns-in-Ok-read_input-clause-end : goal.returns-in-Ok-read_input-clause-end
returns-in-Ok-read_input-clause-end g c = λ some read memory.
    subst (λ m. IsAtEnd (g.S.Source.left c.read_input.new.src) ⊎ IsLongerThan m (g.S.Source.left c.args.src.now))
    (c.most_bytes.ensures.most
    ∙ ap most_bytes (sym (sym c.read_words.ensures.asked ∙ ap (option_map meant) c.in-Some.is)))
    c.in-Ok-read_input.ensures.end

pub returns-in-Demo-clause-violated : goal.returns-in-Demo-clause-violated
returns-in-Demo-clause-violated g c = λ done is_watch. absurd (ring_is_no_watch (asked c.args.words.now)
    c.in-Demo.places
    (sym c.read_words.ensures.asked ∙ ap (option_map meant) c.in-Some.is ∙ ap (λ x. Some (meant x)) c.in-Demo.is)
    is_watch)

pub returns-in-Ok-read_input-clause-violated : goal.returns-in-Ok-read_input-clause-violated
returns-in-Ok-read_input-clause-violated g c =
    done_violated (asked c.args.words.now) (meant c.in-Some.command) (g.S.Source.left c.args.src.now)
    c.in-Ok-read_input.text
    (g.K.Sink.written c.args.out.now) (g.K.Sink.written c.write_command.new.out) c.write_command.result
    (sym c.read_words.ensures.asked ∙ ap (option_map meant) c.in-Some.is)
    (subst (λ m. IsTextOf m (g.S.Source.left c.args.src.now) c.in-Ok-read_input.text)
    c.most_bytes.ensures.most c.in-Ok-read_input.ensures.input)
    c.write_command.ensures.told

pub returns-in-Demo-clause-unviolated : goal.returns-in-Demo-clause-unviolated
returns-in-Demo-clause-unviolated g c = λ done is_watch. absurd (ring_is_no_watch (asked c.args.words.now)
    c.in-Demo.places
    (sym c.read_words.ensures.asked ∙ ap (option_map meant) c.in-Some.is ∙ ap (λ x. Some (meant x)) c.in-Demo.is)
    is_watch)

pub returns-in-Ok-read_input-clause-unviolated : goal.returns-in-Ok-read_input-clause-unviolated
returns-in-Ok-read_input-clause-unviolated g c =
    done_unviolated (asked c.args.words.now) (meant c.in-Some.command) (g.S.Source.left c.args.src.now)
    c.in-Ok-read_input.text
    (g.K.Sink.written c.args.out.now) (g.K.Sink.written c.write_command.new.out) c.write_command.result
    (sym c.read_words.ensures.asked ∙ ap (option_map meant) c.in-Some.is)
    (subst (λ m. IsTextOf m (g.S.Source.left c.args.src.now) c.in-Ok-read_input.text)
    c.most_bytes.ensures.most c.in-Ok-read_input.ensures.input)
    c.write_command.ensures.told

pub returns-in-Demo-clause-kept : goal.returns-in-Demo-clause-kept
returns-in-Demo-clause-kept g c = λ done is_watch. absurd (ring_is_no_watch (asked c.args.words.now) c.in-Demo.places
    (sym c.read_words.ensures.asked ∙ ap (option_map meant) c.in-Some.is ∙ ap (λ x. Some (meant x)) c.in-Demo.is)
    is_watch)

pub returns-in-Ok-read_input-clause-kept : goal.returns-in-Ok-read_input-clause-kept
returns-in-Ok-read_input-clause-kept g c =
    done_kept (asked c.args.words.now) (meant c.in-Some.command) (g.S.Source.left c.args.src.now)
    c.in-Ok-read_input.text
    (g.K.Sink.written c.args.out.now) (g.K.Sink.written c.write_command.new.out) c.write_command.result
    (sym c.read_words.ensures.asked ∙ ap (option_map meant) c.in-Some.is)
    (subst (λ m. IsTextOf m (g.S.Source.left c.args.src.now) c.in-Ok-read_input.text)
    c.most_bytes.ensures.most c.in-Ok-read_input.ensures.input)
    c.write_command.ensures.told

pub returns-in-Ok-read_input-clause-form : goal.returns-in-Ok-read_input-clause-form
returns-in-Ok-read_input-clause-form g c = λ has is_check. absurd (others_no_check (asked c.args.words.now)
    c.in-Some.command (sym c.read_words.ensures.asked ∙ ap (option_map meant) c.in-Some.is)
    c.in_default-command-2.not-Check is_check)

pub returns-in-Ok-read_input-clause-part_form : goal.returns-in-Ok-read_input-clause-part_form
returns-in-Ok-read_input-clause-part_form g c = λ fault is_check. absurd (others_no_check (asked c.args.words.now)
    c.in-Some.command (sym c.read_words.ensures.asked ∙ ap (option_map meant) c.in-Some.is)
    c.in_default-command-2.not-Check is_check)

pub returns-in-Err-read_input-clause-form : goal.returns-in-Err-read_input-clause-form
returns-in-Err-read_input-clause-form g c = λ has is_check. absurd (others_no_check (asked c.args.words.now)
    c.in-Some.command (sym c.read_words.ensures.asked ∙ ap (option_map meant) c.in-Some.is)
    c.in_default-command-2.not-Check is_check)

pub returns-in-Err-read_input-clause-part_form : goal.returns-in-Err-read_input-clause-part_form
returns-in-Err-read_input-clause-part_form g c = λ fault is_check. absurd (others_no_check (asked c.args.words.now)
    c.in-Some.command (sym c.read_words.ensures.asked ∙ ap (option_map meant) c.in-Some.is)
    c.in_default-command-2.not-Check is_check)

pub write_command-requires-clause-no_check : goal.write_command-requires-clause-no_check
write_command-requires-clause-no_check g c = c.in_default-command-2.not-Check

pub write_command-requires-clause-no_ring : goal.write_command-requires-clause-no_ring
write_command-requires-clause-no_ring g c = c.in_default-command.not-Demo
