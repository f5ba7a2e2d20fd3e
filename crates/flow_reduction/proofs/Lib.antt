mod SameLemmas
mod UpdateLemmas
