use Rattle.std.proofs.Common.{◌≡◌, ◌∙◌, ℕ, Bool, true, false, List, bytes_eq, ap, sym}
use Rattle.std.specs.Prelude.{◌||◌}
use Rattle.trace_groups.specs.GroupNames.{span_name}
use Rattle.trace_groups.proofs.reply.is_named.Goals as goal

named_alone : (text whole name : List ℕ) → bytes_eq text name ≡ true → true ≡ (bytes_eq text name || bytes_eq whole name)
named_alone text whole name is = sym (ap (λ (alone : Bool). alone || bytes_eq whole name) is)

named_whole : (text whole name : List ℕ) (result : Bool) → bytes_eq text name ≡ false → result ≡ bytes_eq whole name → result ≡ (bytes_eq text name || bytes_eq whole name)
named_whole text whole name result other is = is ∙ sym (ap (λ (alone : Bool). alone || bytes_eq whole name) other)

pub returns-then-eq : goal.returns-then-eq
returns-then-eq c = named_alone c.args.span.now.name (span_name c.args.span.now) c.args.name.now (cc)

pub returns : goal.returns
returns c = named_whole c.args.span.now.name (span_name c.args.span.now) c.args.name.now _ (cc) (cc (c.in_ok-whole.ensures))
