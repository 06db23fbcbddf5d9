-- What one client has done for its script.
use Rattle.std.proofs.Common.{◌≡◌, ℕ, ◌<◌, ◌^◌, List, [], ◌++◌, length, sym, ap, ◌∙◌, subst, Option, Some}
use Rattle.std.specs.Io.KnownBytes.{Appends}
use Rattle.report_form.specs.declared.form.Format.{Format}
use Rattle.session_core.specs.declared.event.Entry.{Entry}
use Rattle.script_lines.specs.Lines.{lines_of}
use Rattle.desk.specs.Clients.{ClientView}
use Rattle.many_scripts.specs.Outputs.{script_line}
use Rattle.many_scripts.specs.Played.{IsPlayed}
use Rattle.many_scripts.specs.Playing.{PlaysScript}
use Rattle.many_scripts.specs.Scripts.{IsPlay}

appended : (held holds : Option (List ℕ)) (header bytes text : List ℕ) → held ≡ Some header → holds ≡ Some bytes → Appends held holds text → bytes ≡ header ++ text
appended held holds header bytes text was is printed = subst (λ o. Appends (Some header) o text) is (subst (λ o. Appends o holds text) was printed)

pub is_play : {R : Type 0} (format : Format) (remaining : R → Option (List ℕ)) (failures : R → ℕ) (c d : ClientView) (script after : R) (most number : ℕ) (header bytes : List ℕ) (held holds : Option (List ℕ))
    → most ≡ 2 ^ 30 → c.calls ≡ [] → held ≡ Some header → header ≡ script_line format number → number ≡ c.number → holds ≡ Some bytes
    → PlaysScript format most c d (remaining script) (remaining after) (failures script) (failures after) held holds
    → IsPlay format remaining failures c script d bytes
is_play format remaining failures c d script after most number header bytes held holds all new was begun numbered is done = record {
  read = done.read;
  is_read = record {
    after = after;
    consumed = done.consumed;
    to_the_end = done.to_the_end;
    below_the_most = subst (λ n. length done.read < n) all done.below_the_most;
    no_failure = done.no_failure;
  };
  number = done.plays.number;
  told = done.plays.text;
  text_is = appended held holds header bytes done.plays.text was is done.plays.printed
      ∙ ap (λ h. h ++ done.plays.text) (begun ∙ ap (script_line format) numbered);
  played = subst (λ es. IsPlayed format 1 c.number d.seen [] (lines_of done.read) es done.plays.text) (ap (λ es. es ++ done.plays.entries) (sym new) ∙ sym done.plays.calls)
      (subst (λ (es : List Entry). IsPlayed format 1 c.number d.seen es (lines_of done.read) done.plays.entries done.plays.text) new done.plays.answers);
  later = done.plays.later;
}
