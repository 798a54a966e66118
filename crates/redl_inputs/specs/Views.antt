-- What a clause sees of the code's values.
use Rattle.std.specs.Prelude.{ℕ, List, Result, Ok, Err}
use Rattle.redl_inputs.specs.Admission.{Admission}
use Rattle.redl_inputs.specs.Journals.{DocumentId}
use Rattle.redl_inputs.specs.declared.admitted.Admitted.{Admitted}
use Rattle.redl_inputs.specs.declared.document.Document.{Document}
use Rattle.redl_inputs.specs.declared.document.DocumentId.{DocumentId as DeclaredDocument}
use Rattle.redl_inputs.specs.declared.document.LazyDigest.{LazyDigest}
use Rattle.redl_inputs.specs.declared.document.LazyDigest.TheVariants.{Of, Taken}
use Rattle.redl_lines.specs.Failures.{Failure, failure_view}
use Rattle.redl_lines.specs.declared.failure.Failure.{Failure as DeclaredFailure}
use Rattle.redl_lines.specs.Remarks.{remarks_view}
use Rattle.sha2.specs.Sha256.{sha256}

-- what a function made, seen by the view, or why it failed
abbrev pub result_view : {X Y : Type 0} → (X → Y) → Result X DeclaredFailure → Result Y Failure
result_view view (Ok x) = Ok (view x)
result_view view (Err failure) = Err (failure_view failure)

-- the digest and the count of a document as plain data
abbrev pub document_view : DeclaredDocument → DocumentId
document_view document = record { digest = document.digest; count = document.count }

-- a digest, also where it is not taken yet
abbrev pub digest_in : LazyDigest → List ℕ
digest_in (Of whole) = sha256 whole.now
digest_in (Taken digest) = digest

-- a package as its journals know it, also where its digest is not taken yet
abbrev pub known_view : Document → DocumentId
known_view document = record { digest = digest_in document.digest; count = document.count }

-- a session with its document and its remarks as plain data
abbrev pub admission_view : Admitted → Admission
admission_view admitted = record { document = known_view admitted.document; state = admitted.session; remarks = remarks_view admitted.remarks }
