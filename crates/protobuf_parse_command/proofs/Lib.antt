mod Found
mod Keeping
mod Sounding
mod Texts
