-- What a line that was obeyed or listed is answered.
use Rattle.std.proofs.Common.{◌≡◌, ℕ, Bool, true, List, [], ◌++◌, Result, Ok, Err, OnOk, refl, sym, ap, subst, ◌∙◌}
use Rattle.std.proofs.Common.{append-nil}
use Rattle.std.specs.Prelude.{IsErrAnd}
use Rattle.resolvo_store.specs.Command.{Command}
use Rattle.resolvo_store.specs.Store.{Store, Provider, new_store}
use Rattle.script_text.specs.Statements.{MeansWords}
use Rattle.script_text.specs.declared.fault.LineFault.{LineFault}
use Rattle.script_text.specs.declared.fault.LineFault.TheVariants as OfLine
use Rattle.script_text.specs.declared.statement.Line.{Line}
use Rattle.script_text.specs.declared.statement.Line.TheVariants.{Skipped, Unreadable, Says}
use Rattle.script_text.specs.declared.statement.Statement.{Statement}
use Rattle.script_text.proofs.Statements.{meant_by}
use Rattle.script_packages.specs.declared.packages.Packages.{Packages}
use Rattle.script_packages.specs.CatalogueEnds.{ListsLine, effect_of}
use Rattle.script_packages.specs.CatalogueLines.{catalogue_line_of, entry_meant, said_of}
use Rattle.script_packages.specs.Listing.{listing_of}
use Rattle.scripts.specs.Commands.{Ids, command_line_of, command_meant, command_said}
use Rattle.scripts.specs.Replies.{reply_text}
use Rattle.scripts.specs.Transcript.{ObeysLine}
use Rattle.script_dialogs.specs.ScriptLines.{IsUnreadable, IsAnswered}
use Rattle.script_dialogs.specs.declared.stage.Stage.{Stage}
use Rattle.script_dialogs.specs.declared.stage.Stage.TheVariants.{Catalogue, Commands}

-- the text of an obeyed line is put after what there was
obeyed_own : {N S T : Type 0} (old new : Store N S) (said : Line (Command N S)) (w w' : List ℕ) (t : T) →
    ObeysLine old said w (Ok t) w' new
    → (own : List ℕ) × ObeysLine {T = ℕ} old said [] (Ok 0) own new × (w' ≡ w ++ own)
obeyed_own old new Skipped w w' t h = ([], (refl, h.1), h.0 ∙ sym (append-nil w))
obeyed_own old new Unreadable w w' t h = absurd h
obeyed_own old new (Says c) w w' t h = (reply_text h.0, (h.0, h.1, refl), h.2)

-- what `?` hands on of a fault
pub hands_on : {T : Type 0} (r : Result T LineFault) (e : LineFault) → IsErrAnd r (λ f. f ≡ e) → r ≡ Err e
hands_on (Ok t) e h = absurd h
hands_on (Err f) e h = ap Err h

abbrev fault_or : {T : Type 0} → LineFault → Result T LineFault → LineFault
fault_or other (Ok t) = other
fault_or other (Err e) = e

pub same_fault : {T : Type 0} (r : Result T LineFault) (e f : LineFault) → r ≡ Err e → r ≡ Err f → e ≡ f
same_fault r e f h k = ap (fault_or e) (sym h ∙ k)

-- a command
module _ {N S C : Type 0} (ids : Ids N S) (store : C → Store N S) (said : Line Statement) (T : Type 0)
    (w w' : List ℕ) (kept next : C) where
  obeyed : (r : Result T LineFault) → ObeysLine (store kept) (command_meant ids said) w r w' (store next) →
      (line : List ℕ) → MeansWords line said
      → ObeysLine (store kept) (command_line_of ids line) w r w' (store next)
  obeyed r obeys line means = subst (λ l. ObeysLine (store kept) l w r w' (store next))
      (meant_by (command_said ids) line said means) obeys

  pub command_answered : (provided : Packages → Provider N S) (now : Stage C) → now ≡ Commands kept →
      (r : Result T LineFault)
      → ObeysLine (store kept) (command_meant ids said) w r w' (store next)
      → OnOk r ((line : List ℕ) → MeansWords line said → (own : List ℕ)
      × IsAnswered ids provided store now line own (Commands next) × (w' ≡ w ++ own))
  command_answered provided now at (Ok t) h =
      λ line means. subst (λ s. (own : List ℕ) × IsAnswered ids provided store s line own (Commands next)
      × (w' ≡ w ++ own)) (sym at)
      (obeyed_own (store kept) (store next) (command_line_of ids line) w w' t (obeyed (Ok t) h line means))
  command_answered provided now at (Err e) h = tt

  pub command_unreadable : (now : Stage C) → now ≡ Commands kept → (r : Result T LineFault) →
      ObeysLine (store kept) (command_meant ids said) w r w' (store next)
      → r ≡ Err OfLine.Unreadable → (line : List ℕ) → MeansWords line said → IsUnreadable ids now line
  command_unreadable now at r obeys is line means =
      let h : ObeysLine {T = T} (store kept) (command_line_of ids line) w (Err OfLine.Unreadable) w' (store next) =
      subst (λ r. ObeysLine (store kept) (command_line_of ids line) w r w' (store next)) is
      (obeyed r obeys line means) in
      subst (λ s. IsUnreadable ids s line) (sym at) h.0

-- a line of the catalogue
listed_so : (said : Line Statement) (packages more : Packages) (r : Result Bool LineFault)
    → ListsLine (effect_of (listing_of packages) (entry_meant said)) (listing_of packages) r (listing_of more) →
    (line : List ℕ) → MeansWords line said
    → ListsLine (effect_of (listing_of packages) (catalogue_line_of line)) (listing_of packages) r (listing_of more)
listed_so said packages more r lists line means =
    subst (λ s. ListsLine (effect_of (listing_of packages) s) (listing_of packages) r (listing_of more))
    (meant_by said_of line said means) lists

pub entry_unreadable : {N S C : Type 0} (ids : Ids N S) (said : Line Statement) (now : Stage C)
    (packages more : Packages) (e : LineFault) → now ≡ Catalogue packages
    → ListsLine (effect_of (listing_of packages) (entry_meant said)) (listing_of packages) (Err e) (listing_of more)
    → e ≡ OfLine.Unreadable → (line : List ℕ) → MeansWords line said → IsUnreadable ids now line
entry_unreadable ids said now packages more e at lists is line means =
    subst (λ s. IsUnreadable ids s line) (sym at)
    (subst (λ f. ListsLine (effect_of (listing_of packages) (catalogue_line_of line)) (listing_of packages) (Err f)
    (listing_of more)) is
    (listed_so said packages more (Err e) lists line means))

pub begin_answered : {N S C : Type 0} (ids : Ids N S) (provided : Packages → Provider N S) (store : C →
    Store N S) (said : Line Statement) (w : List ℕ) (now : Stage C)
    (packages more listed : Packages) (begins : Bool) (kept : C) (then : Stage C) → now ≡ Catalogue packages
    → ListsLine (effect_of (listing_of packages) (entry_meant said)) (listing_of packages) (Ok begins)
    (listing_of more) → begins ≡ true
    → listed ≡ more → store kept ≡ new_store (provided listed) → then ≡ Commands kept → (line : List ℕ) →
    MeansWords line said
    → (own : List ℕ) × IsAnswered ids provided store now line own then × (w ≡ w ++ own)
begin_answered ids provided store said w now packages more listed begins kept then at lists is same made after line
    means =
    let h = subst (λ b. ListsLine (effect_of (listing_of packages) (catalogue_line_of line)) (listing_of packages)
    (Ok b) (listing_of more)) is
    (listed_so said packages more (Ok begins) lists line means) in (
      [],
      subst (λ t. IsAnswered ids provided store now line [] t) (sym after)
          (subst (λ s. IsAnswered ids provided store s line [] (Commands kept)) (sym at) (
            h.0,
            (listed, ap listing_of same ∙ h.1, made),
            refl,
          )),
      sym (append-nil w),
    )
