use Rattle.std.proofs.Common.{rules, refl, subst, take, inl, inr, string_bytes, Err, ap}
use Rattle.agg_pages.specs.Answer.{IsReply}
use Rattle.agg_pages.proofs.Statuses.{no_ok, no_refused, no_write_fault}
use Rattle.agg_pages.proofs.Replies.{given_input, never-refused}
use Rattle.agg_pages.proofs.program.walk.Goals as goal

pub returns-in-Ok-clause-answered : goal.returns-in-Ok-clause-answered
returns-in-Ok-clause-answered g c =
    let reply = c.in-Ok.reply in
    let text = string_bytes reply.text in
    let (i, (given, gives, reads), replied) = c.in-Ok.ensures.ok in
    let written = c.deliver.ensures in
    record {
      ok = λ is. (
        i,
        (given, gives, reads),
        (
          text,
          subst (λ refused. IsReply
              (λ b. (goal.QueryBuilder-dyn g (b.builder.vtable, b.builder.value)).tree_for
              b.builder.value)
              refused i text) (written.ok is).0
              replied,
          (written.ok is).1,
        ),
      );
      read_fault = search rules;
      no_input = search rules;
      refused = λ is. (
        i,
        (given, gives, reads),
        (
          text,
          subst (λ refused. IsReply
              (λ b. (goal.QueryBuilder-dyn g (b.builder.vtable, b.builder.value)).tree_for
              b.builder.value)
              refused i text)
              (written.refused is).0 replied,
          (written.refused is).1,
        ),
      );
      write_fault = written.fault;
      prefix = λ is.
          let count = (written.prefix is).0 in (
            i,
            (given, gives, reads),
            (
              take count text,
              (reply.refused, text, replied, (count, refl)),
              (written.prefix is).1,
            ),
          );
      quiet = search rules;
      taken = c.in-Ok.ensures.taken;
      complete = λ (bytes, j, told, is, valid) no_read_fault no_write_fault.
          let same =
          given_input c.args.builders.items (λ b. b.name) _ _ given bytes i j gives told reads is in
          elim written.kinds [
            | inl ok ↦ inl ok
            | inr other ↦ elim other [
              | inl refused ↦ absurd (never-refused
                  (λ b. (goal.QueryBuilder-dyn g (b.builder.vtable, b.builder.value)).tree_for
                  b.builder.value)
                  i j text same valid
                  (subst (λ b. IsReply
                  (λ b. (goal.QueryBuilder-dyn g (b.builder.vtable, b.builder.value)).tree_for
                  b.builder.value)
                  b i text) (written.refused refused).0 replied))
              | inr fault ↦ absurd (no_write_fault (written.fault fault))
            ]
          ];
    }

pub returns-in-Err-clause-answered : goal.returns-in-Err-clause-answered
returns-in-Err-clause-answered g c =
    let status = c.in-Err.status in
    let kinds = c.in-Err.ensures.kinds in
    record {
      ok = λ is. absurd (no_ok status kinds is);
      read_fault = λ is. c.in-Err.ensures.read_fault (ap Err is);
      no_input = λ is. c.in-Err.ensures.no_input (ap Err is);
      refused = λ is. absurd (no_refused status kinds is);
      write_fault = λ is. absurd (no_write_fault status kinds is);
      prefix = λ is. absurd (no_write_fault status kinds is);
      quiet = λ _. refl;
      taken = c.in-Err.ensures.taken;
      complete = λ (bytes, j, told, is, valid) no_read_fault no_write_fault.
          elim kinds [
            | inl none ↦ absurd ((c.in-Err.ensures.no_input (ap Err none) bytes told).0 j is)
            | inr other ↦ elim other [
              | inl fault ↦ absurd (no_read_fault (c.in-Err.ensures.read_fault (ap Err fault)))
              | inr memory ↦ inr memory
            ]
          ];
    }
