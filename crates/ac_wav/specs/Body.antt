-- What a reader of samples keeps, and where it stands. All of it is this project's own.
use Rattle.std.specs.Prelude.{◌≡◌, ℕ, ◌+◌, ◌*◌, nat_lt, Bool, ◌||◌, false, List, Option, None}
use Rattle.ac_io.specs.Within.{IsAt}
use Rattle.ac_wav.specs.declared.body.WavBody.{WavBody}
use Rattle.ac_riff.specs.declared.fault.WavFault.{WavFault}
use Rattle.ac_riff.specs.declared.head.WavHead.{WavHead}
use Rattle.ac_wav.specs.Samples.{align_of}

-- the head of the WAV
abbrev pub head_in : WavBody → WavHead
head_in body = body.head

-- the most bytes that are taken from the input
abbrev pub limit_of : WavBody → ℕ
limit_of body = body.limit

-- the number of bytes that were taken from the input, those before the data included
abbrev pub taken_by : WavBody → ℕ
taken_by body = body.taken

-- the end of the data was answered
abbrev pub is_ended : WavBody → Bool
is_ended body = body.ended

-- the refusal that was answered, and is answered from then on
abbrev pub kept_by : WavBody → Option WavFault
kept_by body = body.kept

-- the body stands behind the first n samples of each channel, and answered neither the end nor a refusal
pub record IsBehind (body : WavBody) (n : ℕ) : Type 0 where
  pub taken_is : taken_by body ≡ (head_in body).taken + n * align_of (head_in body)
  pub going : is_ended body ≡ false
  pub unrefused : kept_by body ≡ None

-- and so does the source, in the whole list of its bytes
pub record StandsBehind (bytes : List ℕ) (body : WavBody) (n : ℕ) (left : Option (List ℕ)) : Type 0 where
  pub at : IsAt bytes (taken_by body) left
  pub behind : IsBehind body n

-- a call that answered n samples kept no refusal, and answered the end where n is below 1,536
pub record EndsAt (old new : WavBody) (n : ℕ) : Type 0 where
  pub unrefused : kept_by new ≡ None
  pub ended : is_ended new ≡ (is_ended old || nat_lt n 1536)
