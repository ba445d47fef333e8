mod Allowed
mod CutSteps
